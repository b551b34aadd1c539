-- The words of the crates below that the clauses of this crate are said in, passed on from one place. Declares nothing.
pub use Rattle.std.specs.List.{concat, list_all, position_or_len, range_with_len}
pub use Rattle.std.specs.Str.{all_ascii_digits}
pub use Rattle.jedec_file.specs.Fields.{each_of, is_each_pin, is_test_char, level_of, number, trimmed, words}
pub use Rattle.jedec_file.specs.Frame.{Framed, four_hex_value}
unfoldable pub use Rattle.jedec_file.specs.Frame.{frame_of}
pub use Rattle.jedec_file.specs.FuseFile.{by_pins, default_fuse, default_test, ends_by, fuse_count, is_pin_count, last_of, level_at, none_unlisted, order_of}
pub use Rattle.jedec_file.specs.FuseFile.{pin_count, sum_agrees, sum_said, vector_at}
unfoldable pub use Rattle.jedec_file.specs.FuseFile.{contents_of, file_of, size_of, vectors_of}
pub use Rattle.jedec_file.specs.Refusals.{Gives, Read, Refuses, ◌>>=◌}
pub use Rattle.jedec_file.specs.TestVectors.{all_chars, chars_of}
pub use Rattle.jedec_file.specs.declared.field.Field.{Field}
pub use Rattle.pld_base.specs.declared.point.Vector.{Vector}
pub use Rattle.pld_device.specs.Table.{Table}
