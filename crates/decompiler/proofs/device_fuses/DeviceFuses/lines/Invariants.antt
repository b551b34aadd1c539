use Rattle.std.proofs.Common.{◌≡◌, flat_map}
use Rattle.decompiler.proofs.Common.{range_with_len, cell_lines}
use Rattle.decompiler.proofs.device_fuses.DeviceFuses.lines.Given as goal

abbrev pub invariant-loop-cell : goal.invariant-loop-cell
invariant-loop-cell g l = l.lines.items ≡ flat_map (cell_lines g.D.Device.table l.self) (range_with_len 0 l.cell)
