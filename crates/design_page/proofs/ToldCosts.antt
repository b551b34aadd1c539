-- What is reported of the cells in turn whose other polarity takes far fewer rows.
use Rattle.std.proofs.Common.{◌≡◌, ℕ, ◌+◌, ◌<◌, List, [], ◌∷◌, ◌++◌, length, get_or, Option, Some, None, Bool, true, false, filter_map, option_to_list, refl, sym, ap, ◌∙◌, subst, arith, inl, inr}
use Rattle.std.proofs.Math.Seq.{get_or-append_seam}
use Rattle.std.proofs.lemmas.Bool.{cases_lt}
use Rattle.std.proofs.lemmas.List.{get_or_append_left, length-append}
use Rattle.std.proofs.lemmas.List.Elements.{filter_map-append}
use Rattle.bit_expr.specs.declared.netlist.Netlist.{Netlist}
use Rattle.fitter.specs.Plans.{cell_wanted}
use Rattle.pld_device.specs.Table.{Table, cell_at}
use Rattle.design_page.specs.Costly.{TellsBelow, TellsCell, is_asked}
use Rattle.design_page.specs.declared.costs.CostlyPolarity.{CostlyPolarity}

pub tells_none : (t : Table) (net : Netlist) (pins : ℕ) → TellsBelow t net pins 0 []
tells_none t net pins = record { told = []; count = refl; each = λ d low. absurd (omega (arith, low)); list_is = refl }

told_one : (told : Option CostlyPolarity) → filter_map (λ (o : Option CostlyPolarity). o) (told ∷ []) ≡ option_to_list told
told_one None = refl
told_one (Some found) = refl

pub tells_more : (t : Table) (net : Netlist) (pins c : ℕ) (before after : List CostlyPolarity) (told : Option CostlyPolarity) → TellsBelow t net pins c before
    → TellsCell t net c (is_asked pins (cell_at t c)) (cell_wanted net c) told → after ≡ before ++ option_to_list told → TellsBelow t net pins (c + 1) after
tells_more t net pins c before after told below here added =
    let all = below.told ++ told ∷ [] in
    record {
      told = all;
      count = let count = below.count in omega (arith, length-append below.told (told ∷ []), count);
      each = λ d low. elim (cases_lt d c) [
        | inl less ↦
            let count = below.count in
            subst (TellsCell t net d (is_asked pins (cell_at t d)) (cell_wanted net d)) (sym (get_or_append_left below.told (told ∷ []) None d (omega (arith, less, count)))) (below.each d less)
        | inr more ↦
            let same : d ≡ c = omega (arith, low, more) in
            rw (same, subst (λ n. get_or all n None ≡ told) below.count (get_or-append_seam below.told told [] None)) here
      ];
      list_is = added
          ∙ ap (λ (xs : List CostlyPolarity). xs ++ option_to_list told) below.list_is
          ∙ sym (filter_map-append (λ (o : Option CostlyPolarity). o) below.told (told ∷ [])
          ∙ ap (λ (xs : List CostlyPolarity). filter_map (λ (o : Option CostlyPolarity). o) below.told ++ xs) (told_one told));
    }
