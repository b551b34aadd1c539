use Rattle.std.proofs.Common.{slice_range, sym, ◌∙◌}
use Rattle.covers.proofs.CommonPoints.{apart_answer, row_answer, union_answer, union_below}
use Rattle.covers.proofs.irredundant.covers_both.Goals as goal

pub returns-then-not-meets-clause-answer : goal.returns-then-not-meets-clause-answer
returns-then-not-meets-clause-answer c = apart_answer (slice_range c.args.pool.now.cubes c.args.cover.from c.args.cover.to) c.args.other c.args.cube c.args.vars c.meets.result c.requires.vars c.requires.other c.meets.ensures c.if-not-meets.true

pub covers_cube-requires-clause-cube : goal.covers_cube-requires-clause-cube
covers_cube-requires-clause-cube c = rw c.union-both.ensures.is (union_below c.args.vars c.args.other c.args.cube c.requires.other c.requires.cube)

pub returns-clause-answer : goal.returns-clause-answer
returns-clause-answer c = union_answer (slice_range c.args.pool.now.cubes c.args.cover.from c.args.cover.to) c.args.other c.args.cube c.union-both.result c.args.vars c.covers_cube.result c.union-both.ensures.is c.covers_cube.ensures.answer

pub returns-then-has_row-clause-answer : goal.returns-then-has_row-clause-answer
returns-then-has_row-clause-answer c = row_answer (slice_range c.args.pool.now.cubes c.args.cover.from c.args.cover.to) c.args.other c.args.cube c.union-both.result c.args.vars c.union-both.ensures.is (sym c.has_row.ensures ∙ c.if-has_row.true)
