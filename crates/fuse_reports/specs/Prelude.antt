-- The words of the crates below that the clauses of this crate are said in, passed on from one place. Declares nothing.
pub use Rattle.std.specs.Fmt.{decimal}
pub use Rattle.jedec_file.specs.FileText.{four_hex}
pub use Rattle.jedec_file.specs.FuseFile.{FuseFile}
unfoldable pub use Rattle.jedec_file.specs.FuseFile.{file_of}
pub use Rattle.jedec_file.specs.FuseSums.{fuse_sum_of}
pub use Rattle.jedec_file.specs.declared.jedec_fault.JedecFault.{JedecFault}
pub use Rattle.jedec_reader.specs.Contents.{contents}
pub use Rattle.outside.specs.Causes.{Begins}
pub use Rattle.outside.specs.Outside.{Map, SameBut, SameFiles, bytes_at}
pub use Rattle.pld_base.specs.DeviceNames.{device_text}
pub use Rattle.pld_device.specs.Table.{Table}
