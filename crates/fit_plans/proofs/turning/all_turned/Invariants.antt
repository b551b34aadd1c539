use Rattle.std.proofs.Common.{◌≡◌, take, length}
use Rattle.fit_plans.proofs.Common.{all_turned}
use Rattle.fit_plans.proofs.turning.all_turned.Given as goal

abbrev pub invariant-loop-cube : goal.invariant-loop-cube
invariant-loop-cube l = record {
  list : l.list.items ≡ all_turned l.mask (take l.cube-index l.cubes);
}
