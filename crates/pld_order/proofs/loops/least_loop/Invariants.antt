use Rattle.std.proofs.Common.{ℕ, ◌<◌, length}
use Rattle.pld_order.proofs.Common.{IsOnNoLoop, reads_of}
use Rattle.pld_order.proofs.loops.least_loop.Given as goal

abbrev pub invariant-loop-v : goal.invariant-loop-v
invariant-loop-v l = (w : ℕ) → w < l.v → IsOnNoLoop (length l.reads) (reads_of l.reads) w
