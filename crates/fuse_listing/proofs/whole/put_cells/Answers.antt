use Rattle.std.proofs.Common.{◌∙◌}
use Rattle.fuse_listing.proofs.Common.{entries_of, assigned_text}
use Rattle.fuse_listing.proofs.Joined.{next_cell}
use Rattle.fuse_listing.proofs.whole.put_cells.Goals as goal

pub loop-cell-preserved : goal.loop-cell-preserved
loop-cell-preserved g c =
    c.in_ok-put_if_assigned.ensures
    ∙ rw (c.loop-cell.invariant) (next_cell (assigned_text g.D.Device.table c.args.of.now.fuses.now (entries_of c.args.of.now.names.now)) c.args.out.now.items c.loop-cell.cell)
