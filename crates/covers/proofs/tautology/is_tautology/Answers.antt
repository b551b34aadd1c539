use Rattle.std.proofs.Common.{◌-◌, slice_range, arith}
use Rattle.covers.proofs.UnateLaws.{whole_room}
use Rattle.covers.proofs.UnateRecursion.{all_answer}
use Rattle.covers.proofs.tautology.is_tautology.Goals as goal

pub missed_point-requires-clause-spare : goal.missed_point-requires-clause-spare
missed_point-requires-clause-spare c =
    whole_room c.args.vars (c.args.cover.to - c.args.cover.from) c.args.pool.now.spare (slice_range c.args.pool.now.cubes c.args.cover.from c.args.cover.to) c.requires.vars (omega arith)

pub returns-clause-answer : goal.returns-clause-answer
returns-clause-answer c =
    all_answer (slice_range c.args.pool.now.cubes c.args.cover.from c.args.cover.to) c.args.vars c.missed_point.result c.is_none.result c.missed_point.ensures.answer c.is_none.ensures
