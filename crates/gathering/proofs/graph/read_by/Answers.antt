use Rattle.std.proofs.Common.{◌<◌, ◌==◌, ◌&&◌, ◌||◌, ◌∙◌, ap, sym, length, arith}
use Rattle.gathering.proofs.Common.{has_if_any, is_read_by}
use Rattle.gathering.proofs.LinkSets.{leaf_there, one_more}
use Rattle.gathering.proofs.graph.read_by.Goals as goal

pub loop-v-preserved : goal.loop-v-preserved
loop-v-preserved c w =
    let low : c.loop-v.v < length c.args.links.now = omega arith in
    let same = ap (λ l. has_if_any c.args.reads.now l) (leaf_there c.args.links.now c.loop-v.v _ low) ∙ sym c.has_if_any.ensures in
    c.insert_if.ensures w ∙ ap (λ x. (c.has_if_any.result && (w == c.loop-v.v)) || x) (c.loop-v.invariant w)
    ∙ one_more (is_read_by c.args.reads.now c.args.links.now) c.loop-v.v w c.has_if_any.result same
