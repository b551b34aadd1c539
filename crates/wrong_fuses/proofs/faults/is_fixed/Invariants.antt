use Rattle.std.proofs.Common.{◌≡◌, ◌<◌, ℕ, false, slice_get}
use Rattle.wrong_fuses.proofs.Common.{names}
use Rattle.wrong_fuses.proofs.faults.is_fixed.Given as goal

abbrev pub invariant-loop-index : goal.invariant-loop-index
invariant-loop-index g l = (d : ℕ) → d < l.index → names l.fuse (slice_get g.D.Device.table.fixed d) ≡ false
