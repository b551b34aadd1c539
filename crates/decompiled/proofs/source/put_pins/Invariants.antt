use Rattle.std.proofs.Common.{◌≡◌, ◌++◌, take, flat_map}
use Rattle.decompiled.proofs.Common.{pin_text}
use Rattle.decompiled.proofs.source.put_pins.Given as goal

abbrev pub invariant-loop-pin : goal.invariant-loop-pin
invariant-loop-pin l = l.out.items ≡ l.initial.out.items ++ flat_map pin_text (take l.pin-index l.pins)
