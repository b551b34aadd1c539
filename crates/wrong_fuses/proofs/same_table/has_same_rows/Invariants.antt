use Rattle.std.proofs.Common.{ℕ, ◌<◌}
use Rattle.wrong_fuses.proofs.Common.{SameRow}
use Rattle.wrong_fuses.proofs.same_table.has_same_rows.Given as goal

abbrev pub invariant-loop-row : goal.invariant-loop-row
invariant-loop-row g l = (d : ℕ) → d < l.row → SameRow g.D.Device.table l.a.fuses l.b.fuses d
