-- A cell on which a module assigns something is inverted only if its direct form has no room.
use Rattle.std.proofs.Common.{◌≡◌, ◌≢◌, ℕ, ◌<◌, true, Option, Some, None, List, All, length, slice_get, refl, sym, ap, ◌∙◌, subst}
use Rattle.std.proofs.lemmas.List.Elements.{All-get_or}
use Rattle.std.proofs.lemmas.Option.{slice_get_within, get_or_from_slice_get}
use Rattle.abel_compile.proofs.Common.{IsDevice, Table, Netlist, ModuleTree, design_of, Wanted, plain_wanted, Fitted, IsFitOf}
use Rattle.std.specs.Option.{option_map}
use Rattle.bit_expr.specs.declared.netlist.CellWanted.{CellWanted}
use Rattle.bit_expr.specs.Arena.{arena}
use Rattle.pld_device.specs.Registers.{is_inverted}
use Rattle.pld_device.specs.declared.flip.Flip.TheVariants.{Always}
use Rattle.fitter.specs.Plans.{cell_wanted}
use Rattle.fitter.specs.Rows.{IsDirectOver, IsFittedEntry}
use Rattle.fitter.specs.declared.answer.FittedCell.{FittedCell}
use Rattle.fitter.proofs.WantedIds.{wanted_is}
use Rattle.netlist_laws.specs.PrimeCorrect.{IsAssignedCell}
use Rattle.compile_phases.specs.SourceRefusals.{IsNetlistOf}
use Rattle.compile_phases.proofs.SameForms.{direct_over, same_wanted}
use Rattle.abel_compile.proofs.OrderedRows.{asked, its}
use Rattle.abel_compile.specs.Fuses.{IsDirectFirst}

at_place : (P : FittedCell → Type 0) (xs : List FittedCell) (k : ℕ) (x : FittedCell) → All P xs → slice_get xs k ≡ Some x → P x
at_place P xs k x all is = subst P (get_or_from_slice_get xs k x x is) (All-get_or P xs k x (slice_get_within xs k x is) all)

module _ (t : Table) (m : ModuleTree) (net : Netlist) (fitted : Fitted) (laws : IsDevice t) (netlist : IsNetlistOf t m net) (fits : IsFitOf t net fitted) (c : ℕ) (low : c < length t.cells)
    (assigned : IsAssignedCell (design_of t m).context c) where
  -- what the netlist that was fitted asks of the cell has no room in the direct form
  record IsOver : Type 0 where
    cell : CellWanted
    wanted : cell_wanted net c ≡ Some cell
    over : IsDirectOver t net c cell

  abbrev IsOverWhere : Type 0
  IsOverWhere = t.flip ≢ Always → is_inverted t fitted.fuses c ≡ true → IsOver

  -- what the cell's entry says is said of the cell
  by_entry : (w : CellWanted) → cell_wanted net c ≡ Some w → (x : FittedCell) → x.cell ≡ c → IsFittedEntry t net fitted.fuses x → IsOverWhere
  by_entry w wanted x here entry flips inverted =
      let own : IsDirectOver t net x.cell entry.cell = entry.direct_first flips (ap (is_inverted t fitted.fuses) here ∙ inverted) in
      let same : entry.cell ≡ w = same_wanted entry.cell w (sym entry.wanted ∙ ap (cell_wanted net) here ∙ wanted) in
      record {
        cell = w;
        wanted = wanted;
        over = subst (λ (v : CellWanted). IsDirectOver t net c v) same (subst (λ (d : ℕ). IsDirectOver t net d entry.cell) here own);
      }

  none_some : (w : Wanted) → None ≡ Some w → ⊥
  none_some w e = absurd cc

  by_wanted : (found : Option CellWanted) → cell_wanted net c ≡ found → IsOverWhere
  by_wanted (Some w) is =
      let (k, x, there, here) = fits.cells.each c w low is in
      by_entry w is x here (at_place (IsFittedEntry t net fitted.fuses) fitted.cells k x fits.cells.entries there)
  by_wanted None is =
      absurd (none_some (its t m net fitted laws netlist.plain fits c low assigned assigned.0)
      (sym (ap (λ w. option_map (plain_wanted (arena net.exprs)) w) is) ∙ (sym (wanted_is net c) ∙ asked t m net fitted laws netlist.plain fits c low assigned)))

  -- and so it is with each netlist of the module
  pub direct_first : IsDirectFirst t m fitted.fuses c
  direct_first flips inverted other w also wanted =
      let own = by_wanted (cell_wanted net c) refl flips inverted in
      direct_over t laws net other netlist.sound also.sound (netlist.plain ∙ sym also.plain) c w own.cell own.wanted wanted own.over
