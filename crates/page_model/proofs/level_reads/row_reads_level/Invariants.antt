use Rattle.std.proofs.Common.{◌≡◌, ℕ, ◌<◌, false}
use Rattle.page_model.specs.LevelReads.{reads_level}
use Rattle.page_model.proofs.level_reads.row_reads_level.Given as goal

abbrev pub invariant-loop-pair : goal.invariant-loop-pair
invariant-loop-pair g l = (p : ℕ) → p < l.pair → reads_level g.D.Device.table l.array l.pin l.row p ≡ false
