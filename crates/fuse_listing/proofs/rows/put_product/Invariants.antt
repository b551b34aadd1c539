use Rattle.std.proofs.Common.{not}
use Rattle.fuse_listing.proofs.Common.{entries_of, column_literal, is_opened}
use Rattle.fuse_listing.proofs.Joined.{HasJoined}
use Rattle.fuse_listing.proofs.rows.put_product.Given as goal

abbrev pub invariant-loop-column : goal.invariant-loop-column
invariant-loop-column g l =
    HasJoined (column_literal g.D.Device.table l.of.fuses.now (entries_of l.of.names.now)) (λ k. not (is_opened g.D.Device.table l.of.fuses.now l.row k))
    l.initial.out.items l.out.items l.is_first l.column
