use Rattle.pld_machine.proofs.Common.{bits, levels_of, q_at_rest, logic_of}
use Rattle.pld_machine.proofs.Fills.{FilledBelow}
use Rattle.pld_machine.proofs.rests.resting_q.Given as goal

abbrev pub invariant-loop-cell : goal.invariant-loop-cell
invariant-loop-cell g l = FilledBelow (bits 32 l.q) (q_at_rest (logic_of (g.L.Logic.meaning l.logic)) (bits 32 l.stored) (levels_of l.at)) l.cell
