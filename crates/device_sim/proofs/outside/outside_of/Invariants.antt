use Rattle.std.proofs.Common.{◌≡◌, take}
use Rattle.device_sim.proofs.Common.{bits, at_pins, level_for}
use Rattle.device_sim.proofs.outside.outside_of.Given as goal

abbrev pub invariant-loop-index : goal.invariant-loop-index
invariant-loop-index l = bits 32 l.levels ≡ at_pins (level_for l.turned l.default) (take l.index l.chars)
