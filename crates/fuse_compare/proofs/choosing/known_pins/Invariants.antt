use Rattle.fuse_compare.proofs.Common.{HasKnownPins}
use Rattle.fuse_compare.proofs.choosing.known_pins.Given as goal

abbrev pub invariant-loop-pin : goal.invariant-loop-pin
invariant-loop-pin g l = HasKnownPins g.D.Device.table l.a l.b l.pin l.vars.items
