-- The words that the proofs of this crate are said in, passed on from one place. Declares nothing.
pub use Rattle.std.proofs.lemmas.Bool.{agree_below_at, and_from, and_parts, cases_Bool, cases_eq, cases_lt, eq-eqb, le-leb, le-ltb, lt-leb, lt-ltb, ne_eqb}
pub use Rattle.std.proofs.lemmas.Bool.{not-true, or_parts, true≢false}
pub use Rattle.std.proofs.lemmas.Bool.Decides.{nat_tests}
pub use Rattle.std.proofs.lemmas.List.{append-nil, drop_at, drop_more, ext_get_or, get_or-drop, get_or-take, length-drop, length-map, length-take}
pub use Rattle.std.proofs.lemmas.List.{length-take-le, take_all, take_at}
pub use Rattle.std.proofs.lemmas.List.Elements.{All-cons, All-head, All-map, All-more, All-nil, All-same, All-tail, All-weaker}
pub use Rattle.std.proofs.lemmas.List.FromFn.{fill_by_all, get_or-map-range_with_len, length-map-range_with_len, length-range_with_len}
pub use Rattle.std.proofs.lemmas.List.Splits.{slice_split_at, slice_split_none}
pub use Rattle.std.specs.Fmt.{decimal}
pub use Rattle.std.specs.List.{All, cons_option, list_all, list_any, onto_first, position_or_len, range_with_len, slice_split}
pub use Rattle.jedec_file.specs.CanonicalFile.{IsPlainName, canonical_body, canonical_file, control_line, levels_line, line_with, row_line, vector_lines}
pub use Rattle.jedec_file.specs.CanonicalFile.{with_sum}
unfoldable pub use Rattle.jedec_file.specs.CanonicalFile.{row_lines}
pub use Rattle.jedec_file.specs.ControlLines.{IsIntactPastLines, control_levels, lines_end, past}
pub use Rattle.jedec_file.specs.FieldLists.{fields_of, pieces}
unfoldable pub use Rattle.jedec_file.specs.FieldLists.{behind_design, field_at, fields_from, no_field}
pub use Rattle.jedec_file.specs.Fields.{each_of, has_bytes, is_blank, is_test_char, level_of, number, short_number, words}
unfoldable pub use Rattle.jedec_file.specs.Fields.{field_of}
pub use Rattle.jedec_file.specs.FileText.{ETX, STX, four_digits, four_hex, hex_digit, level_char, line, space}
pub use Rattle.jedec_file.specs.Frame.{Framed, four_hex_value, hex_value}
unfoldable pub use Rattle.jedec_file.specs.Frame.{check_sum, frame_of, length_of, start_of, sum_at}
pub use Rattle.jedec_file.specs.FuseFile.{FuseFile, by_pins, default_fuse, default_test, ends_by, fuse_count, last_of, level_at, order_of, pin_count, pin_order}
pub use Rattle.jedec_file.specs.FuseFile.{sum_said, vector_at}
unfoldable pub use Rattle.jedec_file.specs.FuseFile.{contents_of, default_of, file_of, fuse_sum_read, fuses_said, size_of, vectors_of}
pub use Rattle.jedec_file.specs.FuseSums.{fuse_sum_of}
pub use Rattle.jedec_file.specs.TestVectors.{IsTestVector, all_chars, chars_of}
pub use Rattle.jedec_file.specs.declared.field.Field.{Field}
pub use Rattle.pld_base.specs.declared.point.Vector.{Vector}
pub use Rattle.pld_device.specs.ControlFuses.{control_fuses, fuses_named}
pub use Rattle.pld_device.specs.Laws.{IsControlFuse, IsDevice}
pub use Rattle.pld_device.specs.Table.{Table}
pub use Rattle.pld_device.specs.declared.fuse_bit.FuseBit.{FuseBit}
pub use Rattle.jedec_writer.specs.Places.{HasPlaces}
