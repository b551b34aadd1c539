use Rattle.std.proofs.Common.{◌≡◌, ◌++◌, flat_map}
use Rattle.fuse_listing.proofs.Common.{range_with_len, entries_of, line_if_used}
use Rattle.fuse_listing.proofs.cells.put_rows.Given as goal

abbrev pub invariant-loop-offset : goal.invariant-loop-offset
invariant-loop-offset g l =
    l.out.items ≡ l.initial.out.items ++ flat_map (line_if_used g.D.Device.table l.of.fuses.now (entries_of l.of.names.now)) (range_with_len l.cell.first l.offset)
