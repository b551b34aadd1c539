-- The rows of a cell on which a module assigns something are in order.
use Rattle.std.proofs.Common.{◌≡◌, ℕ, ◌<◌, Option, Some, None, length, refl, sym, ap, ◌∙◌}
use Rattle.abel_compile.proofs.Common.{IsDevice, Table, Netlist, ModuleTree, design_of, name_at, Wanted, plain_netlist, plain_wanted, wanted_at, Fitted, IsFitOf}
use Rattle.std.specs.Option.{option_map}
use Rattle.bit_expr.specs.declared.netlist.CellWanted.{CellWanted}
use Rattle.bit_expr.specs.Arena.{arena}
use Rattle.abel_meaning.specs.SignalReads.{given_formulas}
use Rattle.fitter.specs.Plans.{cell_wanted}
use Rattle.fitter.proofs.WantedIds.{wanted_is}
use Rattle.fitter.specs.Order.{AreRowsInOrder}
use Rattle.netlist_laws.specs.Gathered.{netlist_of, wanted_for}
use Rattle.netlist_laws.proofs.CellsFound.{wanted_found}
use Rattle.netlist_laws.specs.PrimeCorrect.{IsAssignedCell}

module _ (t : Table) (m : ModuleTree) (net : Netlist) (fitted : Fitted) (laws : IsDevice t) (same : plain_netlist net ≡ netlist_of t m) (fits : IsFitOf t net fitted) (c : ℕ) (low : c < length t.cells)
    (assigned : IsAssignedCell (design_of t m).context c) where
  abbrev pub its : ℕ → Wanted
  its s = wanted_for (design_of t m).context (given_formulas (design_of t m)) c s (name_at (design_of t m).context s)

  -- something is asked of the cell
  pub asked : wanted_at (plain_netlist net) c ≡ Some (its assigned.0)
  asked =
      ap (λ n. wanted_at n c) same
      ∙ wanted_found (design_of t m).context (given_formulas (design_of t m)) laws c low
      ∙ ap (λ s. option_map its s) assigned.1

  none_some : (w : Wanted) → None ≡ Some w → ⊥
  none_some w e = absurd cc

  by_wanted : (found : Option CellWanted) → cell_wanted net c ≡ found → AreRowsInOrder t fitted.fuses c
  by_wanted (Some w) is = fits.order c w low is
  by_wanted None is = absurd (none_some (its assigned.0) (sym (ap (λ w. option_map (plain_wanted (arena net.exprs)) w) is) ∙ (sym (wanted_is net c) ∙ asked)))

  pub rows_ordered : AreRowsInOrder t fitted.fuses c
  rows_ordered = by_wanted (cell_wanted net c) refl
