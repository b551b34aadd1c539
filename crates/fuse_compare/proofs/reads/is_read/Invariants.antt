use Rattle.std.proofs.Common.{◌≡◌, ℕ, ◌<◌, false}
use Rattle.fuse_compare.proofs.Common.{carries, row_reads_some}
use Rattle.fuse_compare.proofs.reads.is_read.Given as goal

abbrev pub invariant-loop-row : goal.invariant-loop-row
invariant-loop-row g l = (r : ℕ) → r < l.row → row_reads_some g.D.Device.table l.array (carries g.D.Device.table l.array l.variable) r ≡ false
