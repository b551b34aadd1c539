use Rattle.std.proofs.Common.{◌<◌, length, add-one, arith}
use Rattle.pld_machine.proofs.OneRest.{settle_more}
use Rattle.pld_machine.proofs.settling.settled.Goals as goal

pub loop-index-preserved : goal.loop-index-preserved
loop-index-preserved g c =
    let within : c.loop-index.index < length (g.L.Logic.meaning c.args.logic.now).slots = omega arith in
    rw add-one (settle_more (g.L.Logic.meaning c.args.logic.now) _ _ _ _ _ within c.loop-index.invariant c.settle_at-at.ensures)
