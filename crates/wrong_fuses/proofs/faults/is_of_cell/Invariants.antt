use Rattle.std.proofs.Common.{◌≡◌, ◌<◌, ◌||◌, ℕ, false}
use Rattle.wrong_fuses.proofs.Common.{inverted_at, registered_at, names}
use Rattle.wrong_fuses.proofs.faults.is_of_cell.Given as goal

abbrev pub invariant-loop-cell : goal.invariant-loop-cell
invariant-loop-cell g l = (d : ℕ) → d < l.cell → (names l.fuse (inverted_at g.D.Device.table d) || names l.fuse (registered_at g.D.Device.table d)) ≡ false
