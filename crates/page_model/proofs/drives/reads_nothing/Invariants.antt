use Rattle.std.proofs.Common.{◌≡◌, ℕ, ◌<◌, false}
use Rattle.pld_device.specs.Reads.{row_reads}
use Rattle.page_model.proofs.drives.reads_nothing.Given as goal

abbrev pub invariant-loop-pair : goal.invariant-loop-pair
invariant-loop-pair g l = (p : ℕ) → p < l.pair → row_reads g.D.Device.table l.array l.row p ≡ false
