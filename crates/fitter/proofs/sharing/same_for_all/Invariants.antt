-- The cells so far share the function.
use Rattle.fitter.proofs.Common.{plain_netlist, AreSharedBelow, own_formula}
use Rattle.fitter.proofs.sharing.same_for_all.Given as goal

abbrev pub invariant-loop-cell : goal.invariant-loop-cell
invariant-loop-cell g l = AreSharedBelow g.D.Device.table (plain_netlist l.fit.over.net.now) (own_formula l.which) l.cell
