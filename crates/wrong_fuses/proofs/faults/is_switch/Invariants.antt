use Rattle.std.proofs.Common.{◌≡◌, ◌<◌, ℕ, false, slice_get}
use Rattle.wrong_fuses.proofs.Common.{switches_by}
use Rattle.wrong_fuses.proofs.faults.is_switch.Given as goal

abbrev pub invariant-loop-row : goal.invariant-loop-row
invariant-loop-row g l = (d : ℕ) → d < l.row → switches_by l.fuse (slice_get g.D.Device.table.row_switches d) ≡ false
