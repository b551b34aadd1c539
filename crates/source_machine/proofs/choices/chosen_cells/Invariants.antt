-- The cells so far have their bits.
use Rattle.source_machine.proofs.Common.{bits, plain_netlist, chosen}
use Rattle.source_machine.proofs.ChosenCells.{HasFirst}
use Rattle.source_machine.proofs.choices.chosen_cells.Given as goal

abbrev pub invariant-loop-cell : goal.invariant-loop-cell
invariant-loop-cell g l = HasFirst (chosen g.D.Device.table (plain_netlist l.net) l.inverted) l.cell (bits 32 l.chosen)
