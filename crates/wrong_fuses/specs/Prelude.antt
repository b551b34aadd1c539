-- The words of the crates below that the clauses of this crate are said in, passed on from one place. Declares nothing.
pub use Rattle.std.specs.List.{All, list_any, range_with_len}
pub use Rattle.device_logic.specs.DeviceLookups.{device_lookups}
pub use Rattle.device_logic.specs.LoadFaults.{IsLoadFault}
pub use Rattle.device_sim.specs.Simulated.{CanBeSimulated, IsSimFault}
pub use Rattle.device_sim.specs.VectorRun.{IsVectorRun}
pub use Rattle.device_sim.specs.declared.report.Mismatch.{Mismatch}
pub use Rattle.fuse_compare.specs.Alike.{AreAlike, RunsAlike}
pub use Rattle.fuse_compare.specs.Compared.{CanBeLoaded}
pub use Rattle.jedec_reader.specs.Contents.{contents}
pub use Rattle.pld_base.specs.Bits.{is_on}
pub use Rattle.pld_base.specs.Logic.{Logic}
pub use Rattle.pld_base.specs.Points.{IsPoint, Levels}
pub use Rattle.pld_device.specs.FixedFuses.{HasFixedLevels}
pub use Rattle.pld_device.specs.Macrocells.{device_logic}
pub use Rattle.pld_device.specs.Registers.{is_inverted, stores}
pub use Rattle.pld_device.specs.Rows.{row_value}
pub use Rattle.pld_device.specs.Table.{Table, inverted_at, registered_at}
