use Rattle.std.proofs.Common.{◌≡◌, ℕ, ◌<◌, false}
use Rattle.fuse_compare.proofs.Common.{carries, reads_at}
use Rattle.fuse_compare.proofs.reads.row_reads.Given as goal

abbrev pub invariant-loop-pair : goal.invariant-loop-pair
invariant-loop-pair g l = (p : ℕ) → p < l.pair → reads_at g.D.Device.table l.array (carries g.D.Device.table l.array l.variable) l.row p ≡ false
