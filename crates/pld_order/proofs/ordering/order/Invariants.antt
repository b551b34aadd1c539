use Rattle.std.proofs.Common.{◌-◌, length}
use Rattle.pld_order.proofs.Common.{IsOrderSoFar, IsDone, reads_of}
use Rattle.pld_order.proofs.ordering.order.Given as goal

abbrev pub invariant-loop-v : goal.invariant-loop-v
invariant-loop-v l = IsOrderSoFar (length l.reads) (reads_of l.reads) l.order.items × IsDone (length l.reads) l.order.items l.done

abbrev pub decreases-loop-v : goal.decreases-loop-v
decreases-loop-v l = length l.reads - length l.order.items
