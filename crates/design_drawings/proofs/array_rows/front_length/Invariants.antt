use Rattle.std.proofs.Common.{◌≤◌}
use Rattle.design_drawings.proofs.array_rows.front_length.Given as goal

abbrev pub invariant-loop-place : goal.invariant-loop-place
invariant-loop-place l = l.end ≤ 60
