-- One name more.
use Rattle.std.proofs.Common.{None, ap, ap₂, ◌∙◌}
use Rattle.design_checks.proofs.Common.{earlier, view_use, first_refused, reads_used, uses_used, use_at, use_order}
use Rattle.design_checks.proofs.JoinedFirsts.{joined_more, uses_append, uses_placed}
use Rattle.design_checks.proofs.uses.first_of_uses.Goals as goal

pub loop-used-preserved : goal.loop-used-preserved
loop-used-preserved c d knows =
    let l = c.loop-used in
    let r = c.args.names.now.rule in
    let u = view_use c.used-item.result in
    c.earlier-first.ensures
    ∙ ap₂ (earlier use_order) (l.invariant d knows) (c.use_at.ensures ∙ ap (use_at u.first.place) (c.in_ok-signal.ensures d knows) ∙ uses_placed r d u.first.place (reads_used d.known None u))
    ∙ joined_more (first_refused r d) (earlier use_order) (uses_append r d) view_use (uses_used d.known) c.args.uses.now l.used-index c.used-item.result c.loop-used-test.true c.used-item.is
