use Rattle.std.proofs.Common.{◌≡◌, ◌+◌, ◌++◌, take}
use Rattle.covers.proofs.pool.CubePool.push_all.Given as goal

abbrev pub invariant-loop-cube : goal.invariant-loop-cube
invariant-loop-cube l = record {
  cubes : l.self.cubes ≡ l.initial.self.cubes ++ take l.cube-index l.cubes;
  spare : l.self.spare + l.cube-index ≡ l.initial.self.spare;
}
