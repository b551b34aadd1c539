-- The number of the columns so far.
use Rattle.std.proofs.Common.{◌≡◌, ◌<◌, ◌^◌}
use Rattle.fitter.proofs.Common.{row_number}
use Rattle.fitter.proofs.rising.row_number.Given as goal

abbrev pub invariant-loop-column : goal.invariant-loop-column
invariant-loop-column l = record {
  low : l.number < 2 ^ l.column;
  is : l.number ≡ row_number l.column l.cube;
}
