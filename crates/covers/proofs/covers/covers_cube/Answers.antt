use Rattle.std.proofs.Common.{slice_range}
use Rattle.covers.proofs.UnateRecursion.{cube_answer}
use Rattle.covers.proofs.covers.covers_cube.Goals as goal

pub returns-clause-answer : goal.returns-clause-answer
returns-clause-answer c =
    cube_answer (slice_range c.args.pool.now.cubes c.args.cover.from c.args.cover.to) c.args.cube c.args.vars c.point_outside.result c.is_none.result c.point_outside.ensures.answer c.is_none.ensures
