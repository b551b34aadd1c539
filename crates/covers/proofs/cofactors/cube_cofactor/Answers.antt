use Rattle.std.proofs.Common.{◌∙◌, arith}
use Rattle.covers.proofs.CofactorLists.{cofactor_more}
use Rattle.covers.proofs.cofactors.cube_cofactor.Goals as goal

pub loop-place-preserved : goal.loop-place-preserved
loop-place-preserved c = record {
  cubes = c.push_cofactor.ensures.cubes ∙ cofactor_more c.args.by c.args.pool.now.cubes c.loop-place.pool.cubes c.args.cover.from c.loop-place.place c.cube_at-cube.result c.loop-place.invariant.from (omega arith) c.loop-place.invariant.cubes c.cube_at-cube.ensures;
  spare = omega arith;
  few = omega arith;
  from = omega arith;
}
