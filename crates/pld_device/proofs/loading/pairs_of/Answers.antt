use Rattle.std.proofs.Common.{◌∙◌}
use Rattle.pld_device.proofs.LoadedLists.{one_more}
use Rattle.pld_device.proofs.loading.pairs_of.Goals as goal

pub loop-pair-preserved : goal.loop-pair-preserved
loop-pair-preserved g c =
    c.push.ensures.items ∙ one_more c.loop-pair.pairs.items (g.P.Part.table c.args.part.now).pairs c.loop-pair.pair c.carries.result c.loop-pair.invariant c.carries.ensures
