-- One name more.
use Rattle.std.proofs.Common.{ap₂, ◌∙◌}
use Rattle.design_checks.proofs.Common.{option_or, view_use, first_read, reads_used}
use Rattle.design_checks.proofs.JoinedFirsts.{joined_more, read_append}
use Rattle.design_checks.proofs.reads.first_in.Goals as goal

pub loop-used-preserved : goal.loop-used-preserved
loop-used-preserved c d knows =
    let l = c.loop-used in
    let r = c.args.names.now.rule in
    c.or-first.ensures
    ∙ ap₂ option_or (l.invariant d knows) (c.in_ok-first_used.ensures d knows)
    ∙ joined_more (first_read r d) option_or (read_append r d) view_use (reads_used d.known c.args.extension) c.args.uses.now l.used-index c.used-item.result c.loop-used-test.true c.used-item.is
