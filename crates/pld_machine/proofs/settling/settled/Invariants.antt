use Rattle.std.proofs.Common.{◌≡◌, take}
use Rattle.pld_machine.proofs.Common.{bits, levels_of, settle, start}
use Rattle.pld_machine.proofs.settling.settled.Given as goal

abbrev pub invariant-loop-index : goal.invariant-loop-index
invariant-loop-index g l = levels_of l.at ≡ settle (g.L.Logic.meaning l.logic) (start (bits 32 l.outside) (bits 32 l.q)) (take l.index (g.L.Logic.meaning l.logic).slots)
