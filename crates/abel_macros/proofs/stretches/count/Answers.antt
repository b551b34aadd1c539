-- One byte more is counted.
use Rattle.std.proofs.Common.{get_or, arith, ◌==◌}
use Rattle.abel_macros.proofs.Passed.{more, byte_small, all_counted, so_far, counted}
use Rattle.abel_macros.proofs.stretches.count.Goals as goal

pub overflow_add-count : goal.overflow_add-count
overflow_add-count c = omega (arith, so_far c.args.byte c.args.stretch.now c.loop-next.next-index c.loop-next.count (omega arith) c.loop-next.invariant, byte_small (get_or c.args.stretch.now c.loop-next.next-index 0 == c.args.byte), c.requires)

pub loop-next-preserved : goal.loop-next-preserved
loop-next-preserved c = more c.args.byte c.args.stretch.now c.loop-next.next-index 0 c.loop-next.count (omega arith) c.loop-next.invariant

pub returns-clause-value : goal.returns-clause-value
returns-clause-value c = all_counted c.args.byte c.args.stretch.now c.loop-next.next-index c.loop-next.count (omega arith) c.loop-next.invariant

pub returns-clause-most : goal.returns-clause-most
returns-clause-most c = omega (arith, all_counted c.args.byte c.args.stretch.now c.loop-next.next-index c.loop-next.count (omega arith) c.loop-next.invariant, counted c.args.byte c.args.stretch.now)
