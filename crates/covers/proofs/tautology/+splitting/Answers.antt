use Rattle.std.proofs.Common.{rules, ◌-◌, slice_range, sym, ap, ◌∙◌, arith}
use Rattle.covers.proofs.Common.{Pool, cofactor_of, splits}
use Rattle.covers.proofs.CofactorLists.{appended}
use Rattle.covers.proofs.UnateLaws.{cofactor_below, part_room, split_room}
use Rattle.covers.proofs.UnateRecursion.{variable_below, branch_falls, branch_missed, second_answer, some_full, unate_answer}
use Rattle.covers.proofs.tautology.+splitting.Goals as goal

pub missed_in_branch-cube_cofactor-part-requires-clause-spare : goal.missed_in_branch-cube_cofactor-part-requires-clause-spare
missed_in_branch-cube_cofactor-part-requires-clause-spare t c =
    part_room c.args.vars c.args.split.variable c.args.cover.from c.args.cover.to c.args.pool.now.spare (slice_range c.args.pool.now.cubes c.args.cover.from c.args.cover.to) c.requires.variable (rw c.requires.asked at c.requires.binate) c.requires.spare

pub missed_point-returns-then-has_full-clause-answer : goal.missed_point-returns-then-has_full-clause-answer
missed_point-returns-then-has_full-clause-answer t c = λ p len. some_full (slice_range c.args.pool.now.cubes c.args.cover.from c.args.cover.to) p (sym c.has_full.ensures ∙ c.if-has_full.true)

pub missed_point-missed_in_branch-requires : goal.missed_point-missed_in_branch-requires
missed_point-missed_in_branch-requires t c =
    let low = variable_below c.args.vars c.most_asked-variable.result c.asked_literals-asked.result (slice_range c.args.pool.now.cubes c.args.cover.from c.args.cover.to) c.requires.below c.asked_literals-asked.ensures c.most_asked-variable.ensures.in_mask in
    search (rules, low)

pub missed_point-missed_in_branch-requires-in-None : goal.missed_point-missed_in_branch-requires-in-None
missed_point-missed_in_branch-requires-in-None t c =
    let low = variable_below c.args.vars c.most_asked-variable.result c.asked_literals-asked.result (slice_range c.args.pool.now.cubes c.args.cover.from c.args.cover.to) c.requires.below c.asked_literals-asked.ensures c.most_asked-variable.ensures.in_mask in
    search (rules, low)

pub missed_in_branch-missed_point-found-requires : goal.missed_in_branch-missed_point-found-requires
missed_in_branch-missed_point-found-requires t c =
    let cubes = slice_range c.args.pool.now.cubes c.args.cover.from c.args.cover.to in
    let part = c.cube_cofactor-part in
    let rest = slice_range part.new.pool.cubes part.result.from part.result.to in
    let less = branch_falls c.args.vars c.args.split.variable part.result.from part.result.to c.args.split.level c.args.asked c.branch-by.result c.args.pool.now.cubes part.new.pool.cubes cubes c.requires.vars c.requires.variable c.requires.below c.requires.asked c.branch-by.ensures c.requires.binate part.ensures.cubes part.ensures.from part.ensures.to in
    let below = rw (← appended c.args.pool.now.cubes part.new.pool.cubes (cofactor_of c.branch-by.result cubes) part.result.from part.result.to part.ensures.cubes part.ensures.from part.ensures.to) at (cofactor_below c.args.vars c.branch-by.result cubes c.requires.below) in
    let room = split_room (splits c.args.vars cubes) (splits c.args.vars rest) (c.args.cover.to - c.args.cover.from) (part.result.to - part.result.from) c.args.pool.now.spare part.new.pool.spare less (omega arith) c.requires.spare (omega arith) in
    search (rules, less, below, room)

pub missed_in_branch-returns-in-Some-clause-missed : goal.missed_in_branch-returns-in-Some-clause-missed
missed_in_branch-returns-in-Some-clause-missed t c =
    let part = c.cube_cofactor-part in
    branch_missed c.args.vars c.args.split.variable part.result.from part.result.to c.in-Some.point c.moved_into.result c.args.split.level c.args.asked c.branch-by.result c.args.pool.now.cubes part.new.pool.cubes (slice_range c.args.pool.now.cubes c.args.cover.from c.args.cover.to)
    c.requires.vars c.requires.variable c.requires.below c.requires.asked c.branch-by.ensures c.requires.binate part.ensures.cubes part.ensures.from part.ensures.to c.in-Some.ensures.answer c.moved_into.ensures

pub missed_point-returns-then-binate-eq0-clause-answer : goal.missed_point-returns-then-binate-eq0-clause-answer
missed_point-returns-then-binate-eq0-clause-answer t c =
    unate_answer c.args.vars c.moved_into.result c.asked_literals-asked.result c.opposite.result (slice_range c.args.pool.now.cubes c.args.cover.from c.args.cover.to) c.has_full.result c.requires.vars c.requires.below c.has_full.ensures c.if-has_full.false c.asked_literals-asked.ensures c.if-binate-eq0.true c.opposite.ensures c.moved_into.ensures

pub missed_point-returns-in-None-clause-answer : goal.missed_point-returns-in-None-clause-answer
missed_point-returns-in-None-clause-answer t c =
    let cubes = slice_range c.args.pool.now.cubes c.args.cover.from c.args.cover.to in
    let asked = c.asked_literals-asked.result in
    let v = c.most_asked-variable.result in
    let same = ap (λ (p : Pool). p.cubes) c.missed_in_branch.ensures.same in
    let second = c.missed_in_branch-in-None.ensures in
    second_answer c.args.vars v asked cubes c.missed_in_branch-in-None.result c.requires.vars
    (variable_below c.args.vars v asked cubes c.requires.below c.asked_literals-asked.ensures c.most_asked-variable.ensures.in_mask)
    c.requires.below c.asked_literals-asked.ensures c.most_asked-variable.ensures.in_mask (c.missed_in_branch.ensures.all c.in-None.is) (rw same at second.all) (rw same at second.missed)
