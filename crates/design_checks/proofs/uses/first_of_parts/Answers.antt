-- One part more.
use Rattle.std.proofs.Common.{ap₂, ◌∙◌}
use Rattle.design_checks.proofs.Common.{earlier, view_part, first_refused, part_uses, use_order}
use Rattle.design_checks.proofs.JoinedFirsts.{joined_more, uses_append}
use Rattle.design_checks.proofs.uses.first_of_parts.Goals as goal

pub loop-part-preserved : goal.loop-part-preserved
loop-part-preserved c d knows =
    let l = c.loop-part in
    let r = c.args.names.now.rule in
    c.earlier-first.ensures
    ∙ ap₂ (earlier use_order) (l.invariant d knows) (c.in_ok-first_of_part.ensures d knows)
    ∙ joined_more (first_refused r d) (earlier use_order) (uses_append r d) view_part (part_uses d) c.args.parts.now l.part-index c.part-item.result c.loop-part-test.true c.part-item.is
