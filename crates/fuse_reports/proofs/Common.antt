-- The words that the proofs of this crate are said in, passed on from one place. Declares nothing.
pub use Rattle.std.proofs.lemmas.Bool.{true≢false}
pub use Rattle.jedec_file.specs.FileText.{four_hex}
pub use Rattle.jedec_file.specs.FuseFile.{FuseFile}
pub use Rattle.jedec_file.specs.Refusals.{Read, Refuses}
pub use Rattle.jedec_file.specs.declared.jedec_fault.JedecFault.{JedecFault}
pub use Rattle.jedec_reader.specs.Contents.{contents}
pub use Rattle.fuse_reports.specs.FuseFiles.{Unread, WrongMode}
pub use Rattle.fuse_reports.specs.Prelude.{decimal}
pub use Rattle.fuse_reports.specs.SimFaultText.{pins_text}
