-- The nodes of a low rank are valued.
use Rattle.fitter.proofs.Turns.{AreTurned}
use Rattle.fitter.proofs.evaluating.valued_point.Given as goal

abbrev pub invariant-loop-turn : goal.invariant-loop-turn
invariant-loop-turn g l = record {
  turned : AreTurned g.D.Device.table l.net l._turn l.initial.at l.at;
}
