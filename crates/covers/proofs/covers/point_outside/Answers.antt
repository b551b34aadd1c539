use Rattle.std.proofs.Common.{◌-◌, ◌∙◌, sym, slice_range, arith}
use Rattle.covers.proofs.Common.{cofactor_of}
use Rattle.covers.proofs.CofactorLists.{appended}
use Rattle.covers.proofs.UnateLaws.{cofactor_below, whole_room}
use Rattle.covers.proofs.UnateRecursion.{cofactor_all, cofactor_missed, empty_answer}
use Rattle.covers.proofs.covers.point_outside.Goals as goal

pub returns-then-is_empty-clause-answer : goal.returns-then-is_empty-clause-answer
returns-then-is_empty-clause-answer c =
    empty_answer (slice_range c.args.pool.now.cubes c.args.cover.from c.args.cover.to) c.args.cube c.args.vars c.requires.vars c.requires.cube (sym c.is_empty.ensures ∙ c.if-is_empty.true)

pub missed_point-found-requires-clause-below : goal.missed_point-found-requires-clause-below
missed_point-found-requires-clause-below c =
    let cubes = slice_range c.args.pool.now.cubes c.args.cover.from c.args.cover.to in
    let part = c.cube_cofactor-part in
    rw (appended c.args.pool.now.cubes part.new.pool.cubes (cofactor_of c.args.cube cubes) part.result.from part.result.to part.ensures.cubes part.ensures.from part.ensures.to)
    (cofactor_below c.args.vars c.args.cube cubes c.requires.below)

pub missed_point-found-requires-clause-spare : goal.missed_point-found-requires-clause-spare
missed_point-found-requires-clause-spare c =
    let part = c.cube_cofactor-part in
    whole_room c.args.vars (part.result.to - part.result.from) part.new.pool.spare (slice_range part.new.pool.cubes part.result.from part.result.to) c.requires.vars (omega arith)

pub returns-in-Some-clause-answer : goal.returns-in-Some-clause-answer
returns-in-Some-clause-answer c =
    let part = c.cube_cofactor-part in
    cofactor_missed c.args.vars part.result.from part.result.to c.in-Some.point c.moved_into.result c.args.cube c.args.pool.now.cubes part.new.pool.cubes (slice_range c.args.pool.now.cubes c.args.cover.from c.args.cover.to)
    c.requires.vars c.requires.cube (sym c.is_empty.ensures ∙ c.if-is_empty.false) part.ensures.cubes part.ensures.from part.ensures.to c.in-Some.ensures.answer c.moved_into.ensures

pub returns-in-None-clause-answer : goal.returns-in-None-clause-answer
returns-in-None-clause-answer c =
    let part = c.cube_cofactor-part in
    cofactor_all c.args.vars part.result.from part.result.to c.args.cube c.args.pool.now.cubes part.new.pool.cubes (slice_range c.args.pool.now.cubes c.args.cover.from c.args.cover.to)
    c.requires.vars c.requires.cube part.ensures.cubes part.ensures.from part.ensures.to c.in-None.ensures.answer
