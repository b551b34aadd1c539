use Rattle.std.proofs.Common.{◌-◌, length}
use Rattle.pld_order.proofs.Common.{is_on, AreLeading, IsSetOf, reads_of}
use Rattle.pld_order.proofs.leading.leading.Given as goal

abbrev pub invariant-loop-list : goal.invariant-loop-list
invariant-loop-list l = AreLeading (length l.reads) (reads_of l.reads) (is_on l.ends) l.list.items × IsSetOf l.list.items l.set

abbrev pub decreases-loop-list : goal.decreases-loop-list
decreases-loop-list l = length l.reads - length l.list.items
