-- The words of the crates below that the clauses of this crate are said in, passed on from one place. Declares nothing.
pub use Rattle.std.specs.List.{All, list_any, range_with_len}
pub use Rattle.jedec_file.specs.Fields.{is_among}
pub use Rattle.jedec_reader.specs.Contents.{contents}
pub use Rattle.pld_base.specs.Bits.{is_on}
unfoldable pub use Rattle.pld_base.specs.Bits.{bits}
pub use Rattle.pld_base.specs.Logic.{Logic}
pub use Rattle.pld_base.specs.Points.{Levels, levels_of}
pub use Rattle.pld_base.specs.declared.point.Trace.{Trace}
pub use Rattle.pld_device.specs.Macrocells.{device_logic}
pub use Rattle.pld_machine.specs.Lookups.{Lookups, logic_of}
pub use Rattle.pld_machine.specs.Order.{HasPins, IsOrdered}
pub use Rattle.pld_machine.specs.Steps.{Run, power_up}
