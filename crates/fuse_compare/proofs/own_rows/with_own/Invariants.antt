use Rattle.std.proofs.Common.{◌+◌, ◌*◌, ◌≤◌, length}
use Rattle.fuse_compare.proofs.Common.{IsGroupCover}
use Rattle.fuse_compare.proofs.Covered.{CoversBelow}
use Rattle.fuse_compare.proofs.own_rows.with_own.Given as goal

abbrev pub invariant-loop-row : goal.invariant-loop-row
invariant-loop-row g l = record {
  below : CoversBelow g.D.Device.table l.a.fuses l.b.fuses l.fn.rows l.row l.fn.own.items l.more.items;
  cover : IsGroupCover g.D.Device.table l.b.fuses l.fn.rows l.cover.cubes;
  spare : 24 * length l.cover.cubes + 24 ≤ l.cover.spare;
}
