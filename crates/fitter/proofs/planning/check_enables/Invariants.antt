-- The enables so far have at most one row.
use Rattle.fitter.proofs.Common.{SingleBelow}
use Rattle.fitter.proofs.planning.check_enables.Given as goal

abbrev pub invariant-loop-cell : goal.invariant-loop-cell
invariant-loop-cell l = record {
  so_far : SingleBelow l.covers l.cell;
}
