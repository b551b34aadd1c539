use Rattle.std.proofs.Common.{◌≡◌, ℕ, ◌<◌}
use Rattle.fuse_compare.proofs.Common.{stores}
use Rattle.fuse_compare.proofs.choosing.has_same_registers.Given as goal

abbrev pub invariant-loop-cell : goal.invariant-loop-cell
invariant-loop-cell g l = (c : ℕ) → c < l.cell → stores g.D.Device.table l.a c ≡ stores g.D.Device.table l.b c
