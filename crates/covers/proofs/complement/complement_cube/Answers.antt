use Rattle.std.proofs.Common.{◌+◌, refl, arith, length-append}
use Rattle.covers.proofs.Common.{complement_of}
use Rattle.covers.proofs.ComplementLaws.{complement_few, complement_more, complement_start, complement_points, opposites_few}
use Rattle.covers.proofs.complement.complement_cube.Goals as goal

pub push_opposites-requires-clause-spare : goal.push_opposites-requires-clause-spare
push_opposites-requires-clause-spare c =
    let few = opposites_few c.args.cube c.loop-variable.variable c.requires.single in
    let so_far = complement_few c.args.cube c.loop-variable.variable c.requires.single in
    let sum = length-append c.args.pool.now.cubes (complement_of c.args.cube c.loop-variable.variable) in
    let long = rw (← c.loop-variable.invariant.cubes) at sum in
    omega (arith, few, so_far, long, c.loop-variable.invariant.spare)

pub loop-variable-init : goal.loop-variable-init
loop-variable-init c = record { cubes = complement_start c.args.cube c.args.pool.now.cubes; spare = refl }

pub loop-variable-preserved : goal.loop-variable-preserved
loop-variable-preserved c = record {
  cubes = complement_more c.args.cube c.loop-variable.variable (c.loop-variable.variable + 1) c.args.pool.now.cubes c.loop-variable.pool.cubes c.push_opposites.new.pool.cubes refl c.loop-variable.invariant.cubes c.push_opposites.ensures.cubes;
  spare = omega arith;
}

pub returns-clause-points : goal.returns-clause-points
returns-clause-points c = complement_points c.args.cube c.args.vars
