use Rattle.std.proofs.Common.{◌≡◌, ℕ, ◌<◌, false}
use Rattle.fuse_compare.proofs.Common.{is_enable_pin, cell_at}
use Rattle.fuse_compare.proofs.reads.enables_some.Given as goal

abbrev pub invariant-loop-cell : goal.invariant-loop-cell
invariant-loop-cell g l = (c : ℕ) → c < l.cell → is_enable_pin l.pin (cell_at g.D.Device.table c).enable ≡ false
