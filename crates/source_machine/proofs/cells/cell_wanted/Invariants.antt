-- None of the cells so far is the one.
use Rattle.std.proofs.Common.{◌≡◌}
use Rattle.source_machine.proofs.Common.{arena, plain_netlist, wanted_at}
use Rattle.source_machine.proofs.FirstControls.{found_from}
use Rattle.source_machine.proofs.cells.cell_wanted.Given as goal

abbrev pub invariant-loop-wanted : goal.invariant-loop-wanted
invariant-loop-wanted l = found_from (arena l.net.exprs) l.net.cells l.cell l.wanted-index ≡ wanted_at (plain_netlist l.net) l.cell
