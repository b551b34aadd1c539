-- The words of the crates below that the clauses of this crate are said in, passed on from one place. Declares nothing.
pub use Rattle.std.specs.List.{list_any, range_with_len}
pub use Rattle.pld_base.specs.Points.{Levels}
pub use Rattle.pld_base.specs.declared.device_name.DeviceName.{DeviceName}
pub use Rattle.pld_base.specs.declared.device_name.DeviceName.TheVariants.{ATF22V10C, GAL16V8, GAL16V8C, GAL16V8R4, GAL16V8R6, GAL16V8R8, GAL18V10, GAL20V8, GAL22V10, P16L8, P16P8, P16R4, P16R6, P16R8, P18P8, P20L10, P20L8, P20R4, P20R6, P20R8}
pub use Rattle.pld_device.specs.DrawnFuses.{Drawn, drawn_array}
pub use Rattle.pld_device.specs.LawTests.{device_by_computation, passes_all}
pub use Rattle.pld_device.specs.Laws.{IsDevice}
pub use Rattle.pld_device.specs.ShownCells.{ShownRow, ShowsEach, point_with, shown}
pub use Rattle.pld_device.specs.Table.{Table, cell_at}
pub use Rattle.pld_device.specs.declared.carry.Carry.{Carry}
pub use Rattle.pld_device.specs.declared.cell.Cell.{Cell}
pub use Rattle.pld_device.specs.declared.enable.Enable.TheVariants.{Driven, PinLow, Released, Row}
pub use Rattle.pld_device.specs.declared.flip.Flip.TheVariants.{AfterRegister, Always, BeforeRegister}
pub use Rattle.pld_device.specs.declared.fuse_bit.FuseBit.{FuseBit}
pub use Rattle.pld_device.specs.declared.kinds.Kinds.TheVariants.{Combinational, Either, Registered}
