-- The words that the proofs of this crate are said in, passed on from one place. Declares nothing.
pub use Rattle.std.proofs.lemmas.Bool.{and_from, and_parts, cases_Bool, cases_eq, cases_lt, eq-eqb, eqb-true, false_from_ne_true, not-false, not-true, or_cases}
pub use Rattle.std.proofs.lemmas.Bool.{or_left, or_right, true≢false}
pub use Rattle.std.proofs.lemmas.List.{get_or_append_left, get_or_past, length-map, length-take}
pub use Rattle.std.proofs.lemmas.List.Folds.{list_any_at}
pub use Rattle.std.proofs.lemmas.List.FromFn.{get_or-map-range_with_len, length-map-range_with_len, map-range_with_len_more}
pub use Rattle.std.proofs.lemmas.Nat.{and_block, and_comm, or_lt, pow_pos}
pub use Rattle.std.proofs.lemmas.Option.{get_or_from_slice_get, slice_get-get_or, slice_get_within}
pub use Rattle.std.specs.Int.{bit_at, bit_not, w32}
pub use Rattle.std.specs.List.{IsDistinct, list_any, range_with_len}
pub use Rattle.covers.proofs.CubeBits.{literal_below, meets_each}
pub use Rattle.covers.proofs.CubePoints.{apart, empty_has_none, full_has_all, has_point_each}
pub use Rattle.covers.specs.Cubes.{AsksBelow, fits, full_cube, has_point, is_empty, literal_cube, meets, union}
pub use Rattle.covers.specs.declared.cube.Cube.{Cube}
pub use Rattle.pld_base.proofs.BitLemmas.{is_on-bits, length-bits}
pub use Rattle.pld_base.specs.Bits.{is_on, same_level}
unfoldable pub use Rattle.pld_base.specs.Bits.{bits}
pub use Rattle.pld_base.specs.Points.{IsPoint, Levels, levels_of}
pub use Rattle.pld_device.proofs.RowReads.{never_true, row_same}
pub use Rattle.pld_device.specs.Given.{EnableReadsGiven, IsOneLayer, ReadsGiven, enables_never, is_free_pin, never_drives}
pub use Rattle.pld_device.specs.Laws.{Control, Inverts, IsCell, IsDevice, IsPair, Presets, Registers, Resets, Switches, cell_uses, fuse_for, fuse_if_any}
pub use Rattle.pld_device.specs.Laws.{is_row, use_if, uses_of}
pub use Rattle.pld_device.specs.Macrocells.{complement_if, data_rows, device_logic, enabled_by, is_enabled, output_value, pin_complements, pin_level}
pub use Rattle.pld_device.specs.Macrocells.{row_if_any}
pub use Rattle.pld_device.specs.Pins.{HasOwnPins, carries_cell, cell_pins}
pub use Rattle.pld_device.specs.Reads.{connected_pairs, has_whole_pair, is_never_true, row_reads}
pub use Rattle.pld_device.specs.Registers.{is_inverted, stores}
pub use Rattle.pld_device.specs.Rows.{carried, columns_of, is_switched_on, pair_values, row_fuses, row_is_true, row_value}
pub use Rattle.pld_device.specs.Table.{IsDataRow, Table, cell_at, inverted_at, no_cell, registered_at}
pub use Rattle.pld_device.specs.declared.carry.Carry.{Carry}
pub use Rattle.pld_device.specs.declared.cell.Cell.{Cell}
pub use Rattle.pld_device.specs.declared.enable.Enable.{Enable}
pub use Rattle.pld_device.specs.declared.enable.Enable.TheVariants.{PinLow, Driven, Released, Row}
pub use Rattle.pld_machine.specs.Order.{DifferOnlyIn, HasPins, HasSlots, InRange, IsOrdered, ResetsWithoutQ, SameAt}
pub use Rattle.pld_machine.specs.Steps.{IsDetermined}
pub use Rattle.pld_machine.specs.declared.logic.Slot.{Slot}
pub use Rattle.pld_order.proofs.Lists.{eqb_same, few, place_of}
pub use Rattle.pld_order.specs.Graphs.{HasLoop, HasNoLoop, HasNoPath, HasOrder, IsLeastLoop, IsOrder, IsPath, has}
pub use Rattle.pld_order.specs.Sets.{reads_of}
pub use Rattle.device_logic.specs.Array.{CarryInRange, EnableInRange, IsArray, is_connected, is_live, is_whole, passes}
pub use Rattle.device_logic.specs.CellReads.{IsCellOrder, cell_reads, data_reads, enable_reads, pairs_read, rest_reads, row_reads_cell}
pub use Rattle.device_logic.specs.DeviceLookups.{OrderedFuses, device_lookups}
pub use Rattle.device_logic.specs.Graphs.{HasCells, IsGraph, reads_as}
pub use Rattle.device_logic.specs.PairCubes.{AsksBesides, IsPairCube}
pub use Rattle.device_logic.specs.PairReads.{pair_reads}
pub use Rattle.device_logic.specs.ResetPaths.{HasNoResetPath, IsResetPath, plain_reads, reset_reads, row_reads_if_any}
pub use Rattle.device_logic.specs.RowMasks.{HoldsWith, IsMask, holds}
pub use Rattle.device_logic.specs.declared.row_mask.RowMask.{RowMask}
