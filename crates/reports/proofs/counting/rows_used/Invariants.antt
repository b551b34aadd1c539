-- Those of the rows so far.
use Rattle.std.proofs.Common.{◌≡◌, ◌≤◌}
use Rattle.reports.proofs.Common.{count_by, range_with_len, is_used}
use Rattle.reports.proofs.counting.rows_used.Given as goal

abbrev pub invariant-loop-offset : goal.invariant-loop-offset
invariant-loop-offset g l = record {
  few : l.count ≤ l.offset;
  is : l.count ≡ count_by (is_used g.D.Device.table l.fuses) (range_with_len l.shape.first l.offset);
}
