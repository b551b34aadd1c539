use Rattle.std.proofs.Common.{◌≡◌, ◌+◌, ◌++◌, drop}
use Rattle.device_sim.proofs.Common.{levels_of, logic_of, vector_mismatches}
use Rattle.device_sim.proofs.testing.test_pins.Given as goal

abbrev pub invariant-loop-index : goal.invariant-loop-index
invariant-loop-index g l =
    let m = logic_of (g.L.Logic.meaning l.logic) in
    l.initial.list.items ++ vector_mismatches m (levels_of l.at) l.vector 1 l.chars
    ≡ l.list.items ++ vector_mismatches m (levels_of l.at) l.vector (l.index + 1) (drop l.index l.chars)
