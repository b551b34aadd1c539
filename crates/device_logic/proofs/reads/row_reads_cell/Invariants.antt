use Rattle.std.proofs.Common.{◌≡◌, ℕ, ◌<◌, false}
use Rattle.device_logic.proofs.Common.{pair_reads}
use Rattle.device_logic.proofs.reads.row_reads_cell.Given as goal

abbrev pub invariant-loop-pair : goal.invariant-loop-pair
invariant-loop-pair g l = (p : ℕ) → p < l.pair → pair_reads g.D.Device.table l.array l.row l.cell p ≡ false
