use Rattle.std.proofs.Common.{ℕ, ◌<◌}
use Rattle.wrong_fuses.proofs.Common.{SameKind}
use Rattle.wrong_fuses.proofs.same_table.has_same_kinds.Given as goal

abbrev pub invariant-loop-cell : goal.invariant-loop-cell
invariant-loop-cell g l = (d : ℕ) → d < l.cell → SameKind g.D.Device.table l.a.fuses l.b.fuses d
