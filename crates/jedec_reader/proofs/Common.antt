-- The words that the proofs of this crate are said in, passed on from one place. Declares nothing.
pub use Rattle.std.proofs.lemmas.Bool.{cases_Bool, eqb-true, le-ltb, lt-ltb, ltb-true, ne_eqb}
pub use Rattle.std.proofs.lemmas.Bool.Decides.{nat_tests}
pub use Rattle.std.proofs.lemmas.List.{append-nil, ext_get_or, get_or-replicate, get_or-take, get_or_past, length-map, length-replicate, length-take, take_more}
pub use Rattle.std.proofs.lemmas.List.{with_items_is}
pub use Rattle.std.proofs.lemmas.List.Elements.{All-cons, All-get_or, filter_map-append}
pub use Rattle.std.proofs.lemmas.List.FromFn.{fill_by_all, get_or-map-range_with_len, get_or-range_with_len, length-map-range_with_len, length-range_with_len}
pub use Rattle.std.proofs.lemmas.List.FromFn.{map-range_with_len_more, take-map-range_with_len}
pub use Rattle.std.proofs.lemmas.List.Splits.{slice_split-cons_yes, slice_split_first, slice_split_none}
pub use Rattle.std.proofs.lemmas.List.Sums.{fails_before_first, position_or_len_is, prefix_len-le-length}
pub use Rattle.std.proofs.lemmas.Result.{IfOk-weaker, err_from_is_err_and}
pub use Rattle.std.specs.List.{All, concat, cons_option, list_all, onto_first, position_or_len, range_with_len, slice_split}
pub use Rattle.std.specs.Option.{option_or}
pub use Rattle.std.specs.Str.{all_ascii_digits}
pub use Rattle.jedec_file.specs.FieldLists.{fields_of, pieces}
unfoldable pub use Rattle.jedec_file.specs.FieldLists.{behind_design, field_at, fields_from, no_field}
pub use Rattle.jedec_file.specs.Fields.{counts, each_of, has_bytes, is_among, is_blank, is_each_pin, is_field_letter, is_passed_over, is_test_char, level_of}
pub use Rattle.jedec_file.specs.Fields.{levels_field, levels_from, number, one_level, only, order_field, short_number, trimmed, vector_field, words}
unfoldable pub use Rattle.jedec_file.specs.Fields.{field_of}
pub use Rattle.jedec_file.specs.Frame.{four_hex_value}
unfoldable pub use Rattle.jedec_file.specs.Frame.{frame_of}
pub use Rattle.jedec_file.specs.FuseFile.{by_pins, default_fuse, default_test, ends_by, fuse_count, last_of, level_at, none_unlisted, order_of, pin_count}
pub use Rattle.jedec_file.specs.FuseFile.{pin_order, sum_agrees, sum_said, vector_at}
unfoldable pub use Rattle.jedec_file.specs.FuseFile.{contents_of, default_of, file_of, fuse_sum_read, fuses_said, size_of, vectors_of}
pub use Rattle.jedec_file.specs.Refusals.{Gives, Read, Refuses, some_or, ◌>>=◌}
pub use Rattle.jedec_file.specs.TestVectors.{all_chars, chars_of}
pub use Rattle.jedec_file.specs.declared.field.Field.{Field}
pub use Rattle.jedec_file.specs.declared.jedec_fault.JedecFault.{JedecFault}
pub use Rattle.pld_base.specs.declared.point.Vector.{Vector}
pub use Rattle.pld_device.specs.Table.{Table}
pub use Rattle.jedec_reader.specs.Contents.{IsPadded, contents}
pub use Rattle.jedec_reader.specs.FieldFits.{FieldFits}
pub use Rattle.jedec_reader.specs.FieldTexts.{pin_number}
pub use Rattle.jedec_reader.specs.FieldsIn.{fields_in}
pub use Rattle.jedec_reader.specs.LevelTable.{HasPut, default_in, filled, levels_said}
pub use Rattle.jedec_reader.specs.SaidBy.{IsSaidBy, size_fits}
pub use Rattle.jedec_reader.specs.VectorTable.{ArePlaces, AreWithin, HasPutVector, HasVectors, IsPlaced, place_of, present}
