-- The words that the proofs of this crate are said in, passed on from one place. Declares nothing.
pub use Rattle.grade_report.specs.Report.{judged_line, mismatch_line}
pub use Rattle.std.proofs.lemmas.List.{length-map}
pub use Rattle.std.proofs.lemmas.List.FromFn.{length-range_with_len}
pub use Rattle.std.specs.List.{cons_option, range_with_len}
pub use Rattle.jedec_file.specs.FieldLists.{fields_of}
unfoldable pub use Rattle.jedec_file.specs.Frame.{frame_of}
pub use Rattle.jedec_file.specs.FuseFile.{FuseFile, by_pins, last_of, order_of, vector_at}
unfoldable pub use Rattle.jedec_file.specs.FuseFile.{contents_of, default_of, file_of, fuse_sum_read, fuses_said, size_of, vectors_of}
pub use Rattle.jedec_file.specs.Refusals.{Read, ◌>>=◌}
pub use Rattle.jedec_file.specs.TestVectors.{chars_of}
pub use Rattle.jedec_file.specs.declared.field.Field.{Field}
pub use Rattle.jedec_reader.specs.Contents.{contents}
pub use Rattle.pld_device.specs.Table.{Table}
