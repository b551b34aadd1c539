-- The words of the crates below that the clauses of this crate are said in, passed on from one place. Declares nothing.
pub use Rattle.std.specs.Fmt.{decimal}
pub use Rattle.std.specs.List.{count_by}
pub use Rattle.device_logic.specs.declared.fault.SimFault.{SimFault}
pub use Rattle.device_sim.specs.declared.report.Mismatch.{Mismatch}
pub use Rattle.jedec_file.specs.FuseFile.{FuseFile}
pub use Rattle.pld_base.specs.DeviceNames.{device_text}
pub use Rattle.pld_device.specs.Table.{Table}
pub use Rattle.wrong_fuses.specs.declared.verdict.Grade.{Grade}
pub use Rattle.wrong_fuses.specs.declared.verdict.Judged.{Judged}
pub use Rattle.wrong_fuses.specs.declared.verdict.Verdict.{Verdict}
