-- Those of the cells so far.
use Rattle.std.proofs.Common.{◌≡◌, ◌≤◌, ◌*◌}
use Rattle.reports.proofs.Common.{range_with_len, sum_by, rows_used}
use Rattle.reports.proofs.counting.products_used.Given as goal

abbrev pub invariant-loop-cell : goal.invariant-loop-cell
invariant-loop-cell g l = record {
  few : l.count ≤ 255 * l.cell;
  is : l.count ≡ sum_by (rows_used g.D.Device.table l.fuses) (range_with_len 0 l.cell);
}
