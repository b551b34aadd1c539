use Rattle.std.proofs.Common.{ℕ, ◌<◌}
use Rattle.fuse_compare.proofs.Common.{NeverDrives}
use Rattle.fuse_compare.proofs.knowing.is_driven.Given as goal

abbrev pub invariant-loop-cell : goal.invariant-loop-cell
invariant-loop-cell g l = (c : ℕ) → c < l.cell → NeverDrives g.D.Device.table l.logic.fuses c l.pin
