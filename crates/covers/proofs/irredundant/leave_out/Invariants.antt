use Rattle.std.proofs.Common.{◌≡◌, ◌+◌, ◌-◌, ◌≤◌, length, take, drop, slice_range}
use Rattle.covers.proofs.LeftOut.{RowsLeft}
use Rattle.covers.proofs.irredundant.leave_out.Given as goal

abbrev pub invariant-loop-place : goal.invariant-loop-place
invariant-loop-place l = record {
  from : l.from ≤ l.place;
  place : l.place ≤ length l.pool.cubes;
  kept : take l.from l.pool.cubes ≡ take l.from l.initial.pool.cubes;
  few : length l.pool.cubes ≤ length l.initial.pool.cubes;
  spare : l.pool.spare + length l.pool.cubes ≡ l.initial.pool.spare + length l.initial.pool.cubes;
  left : RowsLeft (slice_range l.initial.pool.cubes l.fn.needed.from l.fn.needed.to) (drop l.from l.initial.pool.cubes) l.vars (l.place - l.from) (drop l.from l.pool.cubes);
}

abbrev pub decreases-loop-place : goal.decreases-loop-place
decreases-loop-place l = l.place
