use Rattle.std.proofs.Common.{◌≡◌, ◌+◌, ◌++◌, length}
use Rattle.covers.proofs.Common.{complement_of}
use Rattle.covers.proofs.complement.complement_cube.Given as goal

abbrev pub invariant-loop-variable : goal.invariant-loop-variable
invariant-loop-variable l = record {
  cubes : l.pool.cubes ≡ l.initial.pool.cubes ++ complement_of l.cube l.variable;
  spare : l.pool.spare + length l.pool.cubes ≡ l.initial.pool.spare + length l.initial.pool.cubes;
}
