use Rattle.std.proofs.Common.{◌≡◌, ◌+◌, ◌≤◌, ◌++◌, length, slice_range}
use Rattle.covers.proofs.moving.copy_rows.Given as goal

abbrev pub invariant-loop-place : goal.invariant-loop-place
invariant-loop-place l = record {
  to : l.to ≡ length l.initial.pool.cubes;
  from : l.fn.from ≤ l.place;
  copied : l.pool.cubes ≡ l.initial.pool.cubes ++ slice_range l.initial.pool.cubes l.fn.from l.place;
  spare : l.pool.spare + length l.pool.cubes ≡ l.initial.pool.spare + length l.initial.pool.cubes;
}
