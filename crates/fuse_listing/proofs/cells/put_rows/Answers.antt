use Rattle.std.proofs.Common.{◌∙◌}
use Rattle.fuse_listing.proofs.Common.{entries_of, line_if_used}
use Rattle.fuse_listing.proofs.Joined.{next_row_at}
use Rattle.fuse_listing.proofs.cells.put_rows.Goals as goal

pub loop-offset-preserved : goal.loop-offset-preserved
loop-offset-preserved g c =
    c.in_ok-put_if_used.ensures
    ∙ (rw c.loop-offset.invariant
    (next_row_at (line_if_used g.D.Device.table c.args.of.now.fuses.now (entries_of c.args.of.now.names.now)) c.args.out.now.items c.args.cell.now.first c.loop-offset.offset c.from.result c.from.ensures))
