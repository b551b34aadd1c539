-- The words of the crates below that the clauses of this crate are said in, passed on from one place. Declares nothing.
pub use Rattle.jedec_file.specs.FileText.{ETX, STX, four_hex}
pub use Rattle.jedec_file.specs.FuseFile.{FuseFile}
unfoldable pub use Rattle.jedec_file.specs.FuseFile.{file_of}
pub use Rattle.jedec_reader.specs.Contents.{contents}
pub use Rattle.jedec_reader.specs.DeviceFiles.{limit}
pub use Rattle.pld_base.specs.Bits.{is_on}
unfoldable pub use Rattle.pld_base.specs.Bits.{bits}
pub use Rattle.pld_device.specs.Table.{Table}
