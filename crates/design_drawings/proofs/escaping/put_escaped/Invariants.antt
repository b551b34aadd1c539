use Rattle.std.proofs.Common.{◌≡◌, ◌++◌, take}
use Rattle.design_drawings.specs.Escaped.{escaped}
use Rattle.design_drawings.proofs.escaping.put_escaped.Given as goal

abbrev pub invariant-loop-byte : goal.invariant-loop-byte
invariant-loop-byte l = l.out.items ≡ l.initial.out.items ++ escaped (take l.byte-index l.bytes)
