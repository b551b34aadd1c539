use Rattle.std.proofs.Common.{◌≡◌, ℕ, ◌<◌, ◌≤◌, false}
use Rattle.device_logic.proofs.Common.{row_reads_cell}
use Rattle.device_logic.proofs.reads.rows_read_cell.Given as goal

abbrev pub invariant-loop-row : goal.invariant-loop-row
invariant-loop-row g l = (k : ℕ) → l.first ≤ k → k < l.row → row_reads_cell g.D.Device.table l.array k l.cell ≡ false
