use Rattle.std.proofs.Common.{◌+◌, ◌*◌, ◌≤◌, length}
use Rattle.fuse_compare.proofs.GroupCovers.{CoverBelow}
use Rattle.fuse_compare.proofs.group_covers.group_cover.Given as goal

abbrev pub invariant-loop-row : goal.invariant-loop-row
invariant-loop-row g l = record {
  below : CoverBelow g.D.Device.table l.logic.fuses l.fn.rows l.row l.pool.cubes;
  spare : 25 * l.fn.rows.room + 24 ≤ l.pool.spare + length l.pool.cubes;
}
