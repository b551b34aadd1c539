use Rattle.std.proofs.Common.{◌≡◌, ℕ, ◌<◌, false}
use Rattle.page_model.specs.LevelReads.{row_reads_level}
use Rattle.page_model.proofs.level_reads.is_read.Given as goal

abbrev pub invariant-loop-row : goal.invariant-loop-row
invariant-loop-row g l = (r : ℕ) → r < l.row → row_reads_level g.D.Device.table l.array l.pin r ≡ false
