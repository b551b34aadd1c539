-- The words of the crates below that the clauses of this crate are said in, passed on from one place. Declares nothing.
pub use Rattle.std.specs.List.{All, list_any, range_with_len}
pub use Rattle.covers.specs.Cubes.{AllAskBelow, AsksBelow, covers}
pub use Rattle.device_logic.specs.Array.{CarryInRange, EnableInRange}
pub use Rattle.device_logic.specs.DeviceLookups.{device_lookups}
pub use Rattle.device_logic.specs.LoadFaults.{IsLoadFault}
pub use Rattle.device_logic.specs.RowMasks.{HoldsWith, IsMask, holds}
pub use Rattle.device_logic.specs.declared.row_mask.RowMask.{RowMask}
pub use Rattle.pld_base.specs.Bits.{is_on, same_level}
unfoldable pub use Rattle.pld_base.specs.Bits.{bits}
pub use Rattle.pld_base.specs.Logic.{Logic, is_register}
pub use Rattle.pld_base.specs.Points.{IsPoint, Levels, levels_of}
pub use Rattle.pld_device.specs.LawTests.Cells.{is_enable_pin}
pub use Rattle.pld_device.specs.Macrocells.{complement_if, device_logic, enabled_by, is_enabled, or_value, row_if_any}
pub use Rattle.pld_device.specs.Reads.{row_reads}
pub use Rattle.pld_device.specs.Registers.{is_inverted, stores}
pub use Rattle.pld_device.specs.Table.{Table, cell_at}
pub use Rattle.pld_device.specs.declared.carry.Carry.{Carry}
pub use Rattle.pld_machine.specs.Lookups.{Lookups, logic_of, sets_node}
pub use Rattle.pld_machine.specs.Order.{HasPins, IsOrdered}
pub use Rattle.pld_machine.specs.Rest.{AtRest, q_at_rest}
pub use Rattle.pld_machine.specs.Settling.{q_at_edge}
pub use Rattle.pld_machine.specs.Steps.{IsDetermined, IsTheRest, IsWide, RestsOnce, Run, allows_q}
