-- The words of the crates below that the clauses of this crate are said in, passed on from one place. Declares nothing.
pub use Rattle.devices.specs.Devices.{table_of}
pub use Rattle.fuse_reports.specs.Call.{Asked, Heard, asked, heard}
pub use Rattle.fuse_reports.specs.Counts.{Count, HasRisen, HasStayed, count}
pub use Rattle.fuse_reports.specs.Ending.{Ending, IsTooLong, ends, file_fault, limit, memory_line, too_long_line}
pub use Rattle.fuse_reports.specs.Telling.{Puts, TakesFront, Tells}
pub use Rattle.fuse_reports.specs.View.{ending_seen, view}
pub use Rattle.file_models.specs.FileModels.{file_table}
pub use Rattle.outside.specs.Outside.{Map, SameBut, SameFiles, bytes_at}
pub use Rattle.jedec_file.specs.Fields.{short_number}
pub use Rattle.pld_base.specs.DeviceNames.{named_device}
