-- The best so far, with the rest, gives the first of all, and is one of the cells.
use Rattle.std.proofs.Common.{Contains, IfSome}
use Rattle.fitter.proofs.Common.{arena}
use Rattle.fitter.proofs.FirstNames.{IsFirstSoFar}
use Rattle.fitter.proofs.sharing.first_with.Given as goal

abbrev pub invariant-loop-wanted : goal.invariant-loop-wanted
invariant-loop-wanted l = record {
  so_far : IsFirstSoFar (arena l.net.exprs) l.which l.net.cells l.best l.wanted-index;
  among : IfSome l.best (Contains l.net.cells);
}
