-- One section more, and all sections.
use Rattle.std.proofs.Common.{List, map, sym, ap, ap₂, ◌∙◌}
use Rattle.design_checks.proofs.Common.{flat_map, earlier, view_part, view_section_parts, with_parts, context_for, whole_front, first_refused, part_uses, use_order, flat_map-map, PartTree}
use Rattle.design_checks.proofs.JoinedFirsts.{joined_more, parts_append, parts_in}
use Rattle.design_checks.proofs.LearntName.{is_context_for, knows_all}
use Rattle.design_checks.proofs.uses.first_use.Goals as goal

pub loop-section-preserved : goal.loop-section-preserved
loop-section-preserved g c =
    let t = g.D.Device.table in
    let d = context_for t c.args.scope.now in
    let l = c.loop-section in
    let r = c.args.rule in
    let knows = knows_all t r c.args.scope.now c.scope-known.result.now _ _ c.scope-known.ensures (sym c.as_slice.ensures.value) c.in_ok-learnt.ensures in
    let refused = λ (ps : List PartTree). first_refused r d (flat_map (part_uses d) ps) in
    c.earlier-first.ensures
    ∙ ap₂ (earlier use_order) l.invariant (c.in_ok-first_of_parts.ensures d knows ∙ ap (λ ps. refused (map view_part ps)) c.as_slice-in-loop-section.ensures.value)
    ∙ joined_more refused (earlier use_order) (parts_append r d) view_section_parts parts_in c.sections-section-items.result.now l.section-index c.section-item.result c.loop-section-test.true c.section-item.is

pub returns : goal.returns
returns g c d of same =
    let parted = whole_front view_section_parts c.sections-section-items.result.now c.loop-section.section-index c.loop-section-test.false ∙ c.sections-section-items.ensures ∙ ap (map with_parts) (sym same) in
    c.loop-section.invariant
    ∙ ap₂ (λ e xs. first_refused c.args.rule e (flat_map (part_uses e) xs)) (is_context_for g.D.Device.table c.args.scope.now d.context of) (ap (flat_map parts_in) parted ∙ flat_map-map parts_in with_parts d.sections)
