-- The cubes so far are appended, in the room that there was.
use Rattle.std.proofs.Common.{◌≡◌, ◌+◌, ◌++◌, take}
use Rattle.std.specs.Vec.{vec_capacity, vec_len}
use Rattle.fit_plans.proofs.workspace.append.Given as goal

abbrev pub invariant-loop-cube : goal.invariant-loop-cube
invariant-loop-cube l = record {
  items : l.list.items ≡ l.initial.list.items ++ take l.cube-index l.cubes;
  len : vec_len l.list ≡ vec_len l.initial.list + l.cube-index;
  capacity : vec_capacity l.list ≡ vec_capacity l.initial.list;
}
