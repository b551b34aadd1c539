use Rattle.std.proofs.Common.{◌<◌, ◌∙◌, length, arith}
use Rattle.gathering.proofs.Common.{is_stored_in}
use Rattle.gathering.proofs.LinkSets.{stored_there, one_more}
use Rattle.gathering.proofs.graph.registers.Goals as goal

pub loop-v-preserved : goal.loop-v-preserved
loop-v-preserved c w =
    let low : c.loop-v.v < length c.args.links.now = omega arith in
    (rw (c.loop-v.invariant w) at (c.insert_if.ensures w))
    ∙ one_more (is_stored_in c.args.links.now) c.loop-v.v w _ (stored_there c.args.links.now c.loop-v.v _ low)
