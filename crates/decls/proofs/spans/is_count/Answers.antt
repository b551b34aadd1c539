-- One span more.
use Rattle.std.proofs.Common.{◌+◌, arith}
use Rattle.decls.proofs.Folded.{counts_at, counts_within, fewer}
use Rattle.decls.proofs.spans.is_count.Goals as goal

pub returns-then-room-here : goal.returns-then-room-here
returns-then-room-here c =
    let l = c.loop-span in
    fewer c.args.count _
    (omega (arith, l.invariant, c.if-room-here.true, c.span_count-here.ensures.count, counts_at c.args.spans.now l.span-index c.loop-span-test.true, counts_within c.args.spans.now (l.span-index + 1)))

pub loop-span-preserved : goal.loop-span-preserved
loop-span-preserved c =
    let l = c.loop-span in
    omega (arith, l.invariant, c.if-room-here.false, c.span_count-here.ensures.count, counts_at c.args.spans.now l.span-index c.loop-span-test.true)
