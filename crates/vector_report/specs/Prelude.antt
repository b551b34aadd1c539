-- The words of the crates below that the clauses of this crate are said in, passed on from one place. Declares nothing.
pub use Rattle.fuse_reports.specs.Ending.{Ending, Output, ends}
pub use Rattle.fuse_reports.specs.FuseFiles.{IsFileOf, IsRefusedFile}
pub use Rattle.grade_report.specs.Grading.{GradeEnds}
pub use Rattle.jedec_file.specs.FuseFile.{FuseFile}
pub use Rattle.pld_device.specs.Table.{Table}
