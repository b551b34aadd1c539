-- The words of the crates below that the clauses of this crate are said in, passed on from one place. Declares nothing.
pub use Rattle.std.specs.List.{IsDistinct, list_any, range_with_len}
pub use Rattle.covers.specs.Cubes.{AsksBelow, has_point}
pub use Rattle.pld_base.specs.Bits.{is_on, same_level}
unfoldable pub use Rattle.pld_base.specs.Bits.{bits}
pub use Rattle.pld_base.specs.Points.{IsPoint, Levels, levels_of}
pub use Rattle.pld_device.specs.Given.{IsOneLayer, enables_never, never_drives}
pub use Rattle.pld_device.specs.Laws.{IsDevice}
pub use Rattle.pld_device.specs.Macrocells.{data_complements, data_rows, device_logic, is_enabled, next_q, or_value, output_value, pin_complements, pin_level}
pub use Rattle.pld_device.specs.Macrocells.{row_if_any}
pub use Rattle.pld_device.specs.Pins.{carries_cell}
pub use Rattle.pld_device.specs.Reads.{has_whole_pair, is_never_true, row_reads}
pub use Rattle.pld_device.specs.Registers.{is_inverted, says, stores}
pub use Rattle.pld_device.specs.Rows.{carried, is_switched_on, pair_values, row_fuses, row_value}
pub use Rattle.pld_device.specs.Table.{Table, cell_at}
pub use Rattle.pld_device.specs.declared.carry.Carry.{Carry}
pub use Rattle.pld_device.specs.declared.enable.Enable.{Enable}
pub use Rattle.pld_device.specs.declared.enable.Enable.TheVariants.{PinLow, Driven, Released, Row}
pub use Rattle.pld_machine.specs.Lookups.{Lookups, logic_of}
pub use Rattle.pld_machine.specs.Steps.{IsDetermined}
pub use Rattle.pld_order.specs.Graphs.{HasNoLoop, HasNoPath, IsLeastLoop, IsOrder, IsPath}
