-- The first of the cells so far.
use Rattle.fitter.proofs.Common.{IsFirstBelow}
use Rattle.fitter.proofs.widest.first_wide.Given as goal

abbrev pub invariant-loop-later : goal.invariant-loop-later
invariant-loop-later g l = IsFirstBelow g.D.Device.table l.fit.over.net.now l.later l.first
