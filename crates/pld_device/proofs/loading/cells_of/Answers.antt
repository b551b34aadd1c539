use Rattle.std.proofs.Common.{◌∙◌}
use Rattle.pld_device.proofs.LoadedLists.{one_more}
use Rattle.pld_device.proofs.loading.cells_of.Goals as goal

pub loop-index-preserved : goal.loop-index-preserved
loop-index-preserved g c =
    c.push.ensures.items ∙ one_more c.loop-index.cells.items (g.P.Part.table c.args.part.now).cells c.loop-index.index c.cell.result c.loop-index.invariant c.cell.ensures
