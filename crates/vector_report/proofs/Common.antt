-- The words that the proofs of this crate are said in, passed on from one place. Declares nothing.
pub use Rattle.std.proofs.lemmas.List.{append-nil, length-map, map-append}
pub use Rattle.jedec_file.specs.FuseFile.{FuseFile}
pub use Rattle.jedec_file.specs.TestVectors.{all_chars, chars_of}
pub use Rattle.jedec_reader.specs.Contents.{contents}
pub use Rattle.pld_base.specs.declared.point.Vector.{Vector}
pub use Rattle.pld_device.specs.Table.{Table}
pub use Rattle.vector_report.specs.Prelude.{IsFileOf}
pub use Rattle.vector_report.specs.Saying.{SaysWith}
pub use Rattle.vector_report.specs.Vectoring.{IsWithMore, with_more}
