use Rattle.pld_order.proofs.Common.{reads_of}
use Rattle.pld_order.proofs.LeadLists.{IsFollowed}
use Rattle.pld_order.proofs.paths.followed.Given as goal

abbrev pub invariant-loop-path : goal.invariant-loop-path
invariant-loop-path l = IsFollowed (reads_of l.reads) l.leading l.start l.path.items l.place

abbrev pub decreases-loop-path : goal.decreases-loop-path
decreases-loop-path l = l.place
