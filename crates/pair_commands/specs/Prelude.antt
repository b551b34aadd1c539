-- The words of the crates below that the clauses of this crate are said in, passed on from one place. Declares nothing.
pub use Rattle.std.specs.Fmt.{decimal}
pub use Rattle.devices.specs.Models.{table_at}
pub use Rattle.fuse_reports.specs.Ending.{Ending, ends, limit}
pub use Rattle.fuse_reports.specs.View.{ending_seen}
pub use Rattle.jedec_file.specs.FileText.{level_char}
pub use Rattle.jedec_file.specs.FuseFile.{FuseFile}
unfoldable pub use Rattle.jedec_file.specs.FuseFile.{file_of}
pub use Rattle.jedec_reader.specs.Contents.{contents}
pub use Rattle.jedec_reader.specs.DeviceFiles.{IsFileOf}
pub use Rattle.pld_base.specs.Bits.{is_on}
unfoldable pub use Rattle.pld_base.specs.Bits.{bits}
pub use Rattle.pld_base.specs.DeviceNames.{device_text}
pub use Rattle.pld_base.specs.Logic.{Logic}
pub use Rattle.pld_device.specs.Macrocells.{device_logic}
pub use Rattle.pld_device.specs.Table.{Table, cell_at}
