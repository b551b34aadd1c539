use Rattle.std.proofs.Common.{◌≡◌, ◌++◌, flat_map}
use Rattle.fuse_listing.proofs.Common.{range_with_len, entries_of, assigned_text}
use Rattle.fuse_listing.proofs.whole.put_cells.Given as goal

abbrev pub invariant-loop-cell : goal.invariant-loop-cell
invariant-loop-cell g l =
    l.out.items ≡ l.initial.out.items ++ flat_map (assigned_text g.D.Device.table l.of.fuses.now (entries_of l.of.names.now)) (range_with_len 0 l.cell)
