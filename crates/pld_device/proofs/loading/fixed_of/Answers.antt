use Rattle.std.proofs.Common.{sym, ◌∙◌}
use Rattle.pld_device.proofs.LoadedLists.{one_more}
use Rattle.pld_device.proofs.loading.fixed_of.Goals as goal

pub loop-index-preserved : goal.loop-index-preserved
loop-index-preserved g c =
    c.push.ensures.items ∙ one_more c.loop-index.bits.items (g.P.Part.table c.args.part.now).fixed c.loop-index.index c.in-Some.bit c.loop-index.invariant (sym c.fixed.ensures ∙ c.in-Some.is)
