-- The links so far are those of the first signals.
use Rattle.std.proofs.Common.{◌+◌, length}
use Rattle.source_machine.proofs.Common.{plain_netlist, AreFirstLinks}
use Rattle.source_machine.proofs.links.signal_links.Given as goal

abbrev pub invariant-loop-cell : goal.invariant-loop-cell
invariant-loop-cell g l = AreFirstLinks g.D.Device.table (plain_netlist l.net) l.cell l.links.items

abbrev pub invariant-loop-node : goal.invariant-loop-node
invariant-loop-node g l = AreFirstLinks g.D.Device.table (plain_netlist l.net) (length g.D.Device.table.cells + l.node) l.links.items
