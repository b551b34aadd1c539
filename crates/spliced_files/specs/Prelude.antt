-- The words of the crates below that the clauses of this crate are said in, passed on from one place. Declares nothing.
pub use Rattle.jedec_file.specs.CanonicalFile.{IsPlainName, control_line, with_sum}
unfoldable pub use Rattle.jedec_file.specs.CanonicalFile.{row_lines}
pub use Rattle.jedec_file.specs.ControlLines.{IsIntactPastLines}
pub use Rattle.jedec_file.specs.FieldLists.{pieces}
pub use Rattle.jedec_file.specs.Fields.{is_among, trimmed}
pub use Rattle.jedec_file.specs.FileText.{ETX, STX, byte, four_hex, line, space}
unfoldable pub use Rattle.jedec_file.specs.Frame.{frame_of}
pub use Rattle.jedec_file.specs.FuseFile.{FuseFile}
unfoldable pub use Rattle.jedec_file.specs.FuseFile.{file_of}
pub use Rattle.jedec_file.specs.FuseSums.{fuse_sum_of}
pub use Rattle.jedec_file.specs.Refusals.{Gives, Read, ◌>>=◌}
pub use Rattle.pld_base.specs.DeviceNames.{device_text}
pub use Rattle.pld_device.specs.Table.{Table}
