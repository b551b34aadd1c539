-- Those of the cells so far.
use Rattle.std.proofs.Common.{◌≡◌, ◌≤◌, is_some}
use Rattle.reports.proofs.Common.{count_by, range_with_len, plain_netlist, wanted_at}
use Rattle.reports.proofs.counting.cells_used.Given as goal

abbrev pub invariant-loop-cell : goal.invariant-loop-cell
invariant-loop-cell g l = record {
  few : l.count ≤ l.cell;
  is : l.count ≡ count_by (λ c. is_some (wanted_at (plain_netlist l.net) c)) (range_with_len 0 l.cell);
}
