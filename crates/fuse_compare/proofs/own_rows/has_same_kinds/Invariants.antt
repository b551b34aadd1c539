use Rattle.std.proofs.Common.{ℕ, ◌<◌}
use Rattle.fuse_compare.proofs.Common.{SameKind}
use Rattle.fuse_compare.proofs.own_rows.has_same_kinds.Given as goal

abbrev pub invariant-loop-cell : goal.invariant-loop-cell
invariant-loop-cell g l = (c : ℕ) → c < l.cell → SameKind g.D.Device.table l.a.fuses l.b.fuses c
