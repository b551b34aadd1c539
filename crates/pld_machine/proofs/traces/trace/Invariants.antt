use Rattle.pld_machine.proofs.Common.{bits, levels_of}
use Rattle.pld_machine.proofs.Shown.{ShownBelow}
use Rattle.pld_machine.proofs.traces.trace.Given as goal

abbrev pub invariant-loop-cell : goal.invariant-loop-cell
invariant-loop-cell g l = ShownBelow (g.L.Logic.meaning l.logic) (levels_of l.at) (bits 32 l.driven) l.cell
