-- The values so far.
use Rattle.std.proofs.Common.{◌≡◌, length}
use Rattle.fitter.proofs.Common.{levels_of, HasValues}
use Rattle.fitter.proofs.evaluating.values_of.Given as goal

abbrev pub invariant-loop-id : goal.invariant-loop-id
invariant-loop-id l = record {
  count : length l.values.items ≡ l.id;
  values : HasValues l.exprs (levels_of l.at) l.values.items;
}
