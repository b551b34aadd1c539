use Rattle.std.proofs.Common.{◌≡◌, flat_map}
use Rattle.decompiler.proofs.Common.{range_with_len, control_products}
use Rattle.decompiler.proofs.device_fuses.DeviceFuses.data_sum.Given as goal

abbrev pub invariant-loop-offset : goal.invariant-loop-offset
invariant-loop-offset g l =
    l.products.items ≡ flat_map (control_products g.D.Device.table l.self) (range_with_len l.cell.first l.offset)
