-- The words of the crates below that the clauses of this crate are said in, passed on from one place. Declares nothing.
pub use Rattle.std.specs.Fmt.{decimal}
pub use Rattle.devices.specs.Atf22V10CTable.{atf22v10c}
pub use Rattle.devices.specs.Devices.{table_of}
pub use Rattle.devices.specs.Gal22V10Table.{gal22v10}
pub use Rattle.fuse_forms.specs.Binary.{SaysInBinary, binary_len, count_of, is_binary, is_count}
pub use Rattle.fuse_forms.specs.InForm.{IsInForm, IsReadAs, relisted, signature_of}
pub use Rattle.fuse_forms.specs.Repairs.{IsMadeBy, IsRepairedFile}
pub use Rattle.fuse_forms.specs.Signature.{signed}
pub use Rattle.fuse_forms.specs.Warnings.{are_alike, array_of, is_some_row_possible}
pub use Rattle.fuse_forms.specs.declared.finding.Finding.{Finding}
pub use Rattle.fuse_forms.specs.declared.forms.Form.{Form}
pub use Rattle.fuse_reports.specs.Checking.{checked_line}
pub use Rattle.fuse_reports.specs.Ending.{Ending, ends, limit, too_long_line}
pub use Rattle.fuse_reports.specs.FaultText.{fault_line, two_sums}
pub use Rattle.fuse_reports.specs.FuseFiles.{IsFileOf, IsGoodFile, IsRefusedFile, IsUnread, wrong_mode_line}
pub use Rattle.fuse_reports.specs.View.{ending_seen}
pub use Rattle.jedec_file.specs.FileText.{four_hex}
pub use Rattle.jedec_file.specs.FuseFile.{FuseFile}
unfoldable pub use Rattle.jedec_file.specs.FuseFile.{file_of}
pub use Rattle.jedec_file.specs.declared.jedec_fault.JedecFault.{JedecFault}
pub use Rattle.jedec_reader.specs.Contents.{contents}
pub use Rattle.pld_base.specs.Bits.{is_on}
pub use Rattle.pld_base.specs.DeviceNames.{device_text}
pub use Rattle.pld_device.specs.FixedFuses.{HasFixedLevels, wrong_fixed}
pub use Rattle.pld_device.specs.Table.{Table}
