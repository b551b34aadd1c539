use Rattle.std.proofs.Common.{◌≡◌, flat_map}
use Rattle.decompiler.proofs.Common.{range_with_len, pin_if_named}
use Rattle.decompiler.proofs.device_fuses.DeviceFuses.pins.Given as goal

abbrev pub invariant-loop-before : goal.invariant-loop-before
invariant-loop-before g l = l.pins.items ≡ flat_map (pin_if_named g.D.Device.table l.self l.lines) (range_with_len 1 l.before)
