-- The words that the proofs of this crate are said in, passed on from one place. Declares nothing.
pub use Rattle.std.proofs.Math.Seq.{drop-cons, drop-nil}
pub use Rattle.std.proofs.lemmas.Bool.{and_parts, cases_Bool, cases_eq, cases_lt, eq-eqb, le-leb, lt-ltb, true≢false}
pub use Rattle.std.proofs.lemmas.Bool.Decides.{nat_tests}
pub use Rattle.std.proofs.lemmas.List.{drop_all, length-map, length-take}
pub use Rattle.std.proofs.lemmas.List.Elements.{All-cons, All-nil, Contains-append_left, Contains-append_right}
pub use Rattle.std.proofs.lemmas.Option.{get_or_from_slice_get}
pub use Rattle.std.specs.List.{list_all, list_any, position_from, range_with_len}
pub use Rattle.pld_base.specs.Bits.{is_on, same_level}
pub use Rattle.pld_device.specs.FixedFuses.{HasFixedLevels, wrong_fixed}
pub use Rattle.pld_device.specs.Laws.{Enables, IsData, IsDevice, IsFixed, IsPair, Presets, Resets, Use, cell_uses, fuse_if_any, is_data_row, is_enable_row}
pub use Rattle.pld_device.specs.Laws.{is_row, use_if, uses_of}
pub use Rattle.pld_device.specs.Pins.{HasOwnPins, PairsApart, carries_cell, pair_pins, pin_carried}
pub use Rattle.pld_device.specs.Reads.{connected_pairs, has_whole_pair, is_never_true, row_reads}
pub use Rattle.pld_device.specs.Registers.{says}
pub use Rattle.pld_device.specs.RowLaws.{CarriesAll, HasPairs}
pub use Rattle.pld_device.specs.Rows.{carried, columns_of, is_switched_on, pair_values, row_fuses, row_is_true, row_value}
pub use Rattle.pld_device.specs.Table.{IsDataRow, Table, cell_at, no_cell}
pub use Rattle.pld_device.specs.declared.carry.Carry.{Carry}
pub use Rattle.pld_device.specs.declared.cell.Cell.{Cell}
pub use Rattle.pld_device.specs.declared.fuse_bit.FuseBit.{FuseBit}
