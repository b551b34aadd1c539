use Rattle.std.proofs.Common.{◌≡◌, ◌≤◌, length, take, drop, slice_range}
use Rattle.covers.proofs.Reductions.{AreReduced}
use Rattle.covers.proofs.reduce.reduce.Given as goal

abbrev pub invariant-loop-place : goal.invariant-loop-place
invariant-loop-place l = record {
  from : l.from ≤ l.place;
  place : l.place ≤ length l.pool.cubes;
  kept : take l.from l.pool.cubes ≡ take l.from l.initial.pool.cubes;
  long : length l.pool.cubes ≡ length l.initial.pool.cubes;
  spare : l.pool.spare ≡ l.initial.pool.spare;
  rows : AreReduced (slice_range l.initial.pool.cubes l.fn.needed.from l.fn.needed.to) (drop l.from l.initial.pool.cubes) l.vars (drop l.from l.pool.cubes);
}

abbrev pub decreases-loop-place : goal.decreases-loop-place
decreases-loop-place l = l.place
