use Rattle.device_logic.proofs.PairedRows.{besides_literal, besides_none}
use Rattle.device_logic.proofs.pairing.with_column.Goals as goal

pub returns-then-opened : goal.returns-then-opened
returns-then-opened c = rw c.if-opened.true (besides_none c.args.pair c.args.cube c.args.level)

pub returns-else-opened : goal.returns-else-opened
returns-else-opened c =
    rw c.if-opened.false
    (besides_literal c.args.pair c.args.cube c.literal.result c.union.result c.args.level c.literal.ensures.is c.union.ensures.is c.literal.ensures.points c.union.ensures.points)
