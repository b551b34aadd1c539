-- The answer for a source from that for its units.
use Rattle.std.proofs.Common.{◌≡◌, Option, None, Some, List, [], length, map, sym, ap, ◌∙◌, subst, append-nil}
use Rattle.source_sections.proofs.Common.{arena, earlier, first_refusal, Design, given_formulas, Contribution, view_contribution, section_order, units_nodes, both_clear, at, AreContributed, IsTold, sections_refused, source_units, sections_places, none_refused, SectionFault}
use Rattle.std.specs.Option.{is_some}
use Rattle.set_expr.specs.declared.contributions.Contributions.{Contributions}
use Rattle.set_expr.specs.declared.fault.SectionFault.TheVariants as fault
use Rattle.section_targets.specs.Appending.{Contributed}
use Rattle.gathering.specs.Parts.{AllLieIn}

pub told_of : (rs : List SectionFault) (f : SectionFault) → first_refusal section_order rs ≡ Some f → IsTold rs f
told_of rs fault.OutOfMemory e = tt
told_of rs _ e = e

-- if nothing is refused of both, nothing is of the units
pub accepted_right : (c u : Option SectionFault) → earlier section_order c u ≡ None → u ≡ None
accepted_right c u e = (both_clear c u (ap is_some e)).1

-- all units are contributed, from nothing
pub contributed : (d : Design) (old new : Contributions) → old ≡ at [] [] → None ≡ first_refusal section_order (sections_refused d) → Contributed old new (given_formulas d) (sections_places d.context d.sections) (units_nodes (source_units d)) → AreContributed d new
contributed d old new e h a = by_start (subst (λ (c : Contributions). Contributed c new (given_formulas d) (sections_places d.context d.sections) (units_nodes (source_units d))) e a)
  where
    by_start : Contributed (at [] []) new (given_formulas d) (sections_places d.context d.sections) (units_nodes (source_units d)) → AreContributed d new
    by_start made =
        let whole = made.whole in
        record {
          accepted = none_refused section_order (sections_refused d) h;
          inside = subst (AllLieIn (length (arena new.exprs))) (sym whole.list) whole.inside;
          gives = ap (map (view_contribution (arena new.exprs))) whole.list ∙ sym (whole.gives ∙ append-nil (map (view_contribution (arena new.exprs)) made.more));
          places = ap (map (λ (c : Contribution). c.place)) whole.list ∙ sym (whole.stand ∙ append-nil (map (λ (c : Contribution). c.place) made.more));
          nodes = made.grew.count;
        }
