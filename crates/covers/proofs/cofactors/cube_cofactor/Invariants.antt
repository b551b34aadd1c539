use Rattle.std.proofs.Common.{◌≡◌, ◌+◌, ◌≤◌, ◌++◌, length, slice_range}
use Rattle.covers.proofs.Common.{cofactor_of}
use Rattle.covers.proofs.cofactors.cube_cofactor.Given as goal

abbrev pub invariant-loop-place : goal.invariant-loop-place
invariant-loop-place l = record {
  cubes : l.pool.cubes ≡ l.initial.pool.cubes ++ cofactor_of l.by (slice_range l.initial.pool.cubes l.fn.cover.from l.place);
  spare : l.pool.spare + length l.pool.cubes ≡ l.initial.pool.spare + length l.initial.pool.cubes;
  few : length l.pool.cubes + l.fn.cover.from ≤ length l.initial.pool.cubes + l.place;
  from : l.fn.cover.from ≤ l.place;
}
