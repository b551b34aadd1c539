use Rattle.std.proofs.Common.{◌≡◌, take}
use Rattle.demo_source.proofs.Common.{bits, outside}
use Rattle.demo_source.proofs.vectors.outside_of.Given as goal

abbrev pub invariant-loop-index : goal.invariant-loop-index
invariant-loop-index l = bits 32 l.levels ≡ outside l.clock (take l.index l.inputs)
