use Rattle.std.proofs.Common.{slice_range}
use Rattle.covers.proofs.ComplementLaws.{literal_cofactor}
use Rattle.covers.proofs.cofactors.cofactor.Goals as goal

pub returns-clause-points : goal.returns-clause-points
returns-clause-points c =
    let part = c.cube_cofactor in
    literal_cofactor c.args.vars c.args.variable part.result.from part.result.to c.args.level c.literal.result c.args.pool.now.cubes part.new.pool.cubes (slice_range c.args.pool.now.cubes c.args.cover.from c.args.cover.to)
    c.requires.vars c.requires.variable c.literal.ensures.is part.ensures.cubes part.ensures.from part.ensures.to
