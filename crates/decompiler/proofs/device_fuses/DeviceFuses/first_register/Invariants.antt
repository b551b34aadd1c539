use Rattle.std.proofs.Common.{◌≡◌, ◌-◌, length}
use Rattle.decompiler.proofs.Common.{find, range_with_len, stores}
use Rattle.decompiler.proofs.device_fuses.DeviceFuses.first_register.Given as goal

abbrev pub invariant-loop-cell : goal.invariant-loop-cell
invariant-loop-cell g l =
    find (stores g.D.Device.table l.self) (range_with_len 0 (length g.D.Device.table.cells))
    ≡ find (stores g.D.Device.table l.self) (range_with_len l.cell (length g.D.Device.table.cells - l.cell))
