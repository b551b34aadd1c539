-- Sections one after the other.
use Rattle.std.proofs.Common.{sym, ap₂, ◌∙◌}
use Rattle.design_checks.proofs.Common.{earlier, first_refusal, view_section, first_append, context_for, whole_front, use_order, section_refused, sections_refused}
use Rattle.design_checks.specs.declared.rule.UseRule.TheVariants as use_rule
use Rattle.design_checks.proofs.JoinedFirsts.{joined_more}
use Rattle.design_checks.proofs.LearntName.{is_context_for, knows_all}
use Rattle.design_checks.proofs.spelling.other_spelling.Goals as goal

pub loop-section-preserved : goal.loop-section-preserved
loop-section-preserved g c =
    let t = g.D.Device.table in
    let d = context_for t c.args.scope.now in
    let knows = knows_all t use_rule.Extensions c.args.scope.now c.scope-known.result.now _ _ c.scope-known.ensures (sym c.as_slice.ensures.value) c.in_ok-learnt.ensures in
    c.earlier-first.ensures
    ∙ ap₂ (earlier use_order) c.loop-section.invariant (c.in_ok-refused_section.ensures knows)
    ∙ joined_more (first_refusal use_order) (earlier use_order) (first_append use_order) view_section (section_refused d) c.args.sections.now c.loop-section.section-index c.section-item.result c.loop-section-test.true c.section-item.is

pub returns : goal.returns
returns g c d of same =
    c.loop-section.invariant
    ∙ ap₂ (λ e ss. first_refusal use_order (sections_refused e ss)) (is_context_for g.D.Device.table c.args.scope.now d.context of) (whole_front view_section c.args.sections.now c.loop-section.section-index c.loop-section-test.false ∙ sym same)
