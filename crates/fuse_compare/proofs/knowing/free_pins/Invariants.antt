use Rattle.fuse_compare.proofs.Common.{bits, device_lookups, AreFreePins}
use Rattle.fuse_compare.proofs.knowing.free_pins.Given as goal

abbrev pub invariant-loop-pin : goal.invariant-loop-pin
invariant-loop-pin g l = AreFreePins (device_lookups g.D.Device.table l.logic.fuses l.logic.order) (bits 32 l.pins)
