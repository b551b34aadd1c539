use Rattle.std.proofs.Common.{◌≡◌, ◌-◌, length}
use Rattle.decompiler.proofs.Common.{find, range_with_len, is_register_on}
use Rattle.decompiler.proofs.device_fuses.DeviceFuses.register_on.Given as goal

abbrev pub invariant-loop-cell : goal.invariant-loop-cell
invariant-loop-cell g l =
    find (is_register_on g.D.Device.table l.self l.pin) (range_with_len 0 (length g.D.Device.table.cells))
    ≡ find (is_register_on g.D.Device.table l.self l.pin) (range_with_len l.cell (length g.D.Device.table.cells - l.cell))
