use Rattle.std.proofs.Common.{ℕ, ◌<◌}
use Rattle.fuse_compare.proofs.Common.{SameCell}
use Rattle.fuse_compare.proofs.own_rows.own_rows.Given as goal

abbrev pub invariant-loop-cell : goal.invariant-loop-cell
invariant-loop-cell g l = (c : ℕ) → c < l.cell → SameCell g.D.Device.table l.a.fuses l.b.fuses l.own.items c
