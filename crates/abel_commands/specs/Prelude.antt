-- The words of the crates below that the clauses of this crate are said in, passed on from one place. Declares nothing.
pub use Rattle.std.specs.Char.{is_ascii_digit}
pub use Rattle.std.specs.Fmt.{decimal}
pub use Rattle.std.specs.List.{list_all, list_any, prefix_len, range_with_len}
pub use Rattle.abel_compile.specs.Correct.{IsCompiled}
pub use Rattle.abel_compile.specs.declared.compiled.Compiled.{Compiled}
pub use Rattle.device_logic.specs.CellReads.{cell_reads}
pub use Rattle.device_logic.specs.ResetPaths.{HasNoResetPath, IsResetPath}
pub use Rattle.device_logic.specs.declared.fault.SimFault.{SimFault}
pub use Rattle.device_sim.specs.Simulated.{CanBeSimulated, IsSimFault, IsSimulated, IsTheOnlyList, first_unsupported}
pub use Rattle.device_sim.specs.declared.report.Mismatch.{Mismatch}
pub use Rattle.devices.specs.Models.{table_at}
pub use Rattle.file_models.specs.FileModels.{file_table}
pub use Rattle.jedec_file.specs.FileText.{four_hex, level_char}
pub use Rattle.jedec_file.specs.FuseFile.{FuseFile}
unfoldable pub use Rattle.jedec_file.specs.FuseFile.{file_of}
pub use Rattle.jedec_file.specs.FuseSums.{fuse_sum_of}
pub use Rattle.jedec_file.specs.declared.jedec_fault.JedecFault.{JedecFault}
pub use Rattle.jedec_reader.specs.Contents.{contents}
pub use Rattle.outside.specs.Outside.{Map, SameFiles, bytes_at}
pub use Rattle.pld_base.specs.Bits.{is_on}
unfoldable pub use Rattle.pld_base.specs.Bits.{bits}
pub use Rattle.pld_base.specs.DeviceNames.{device_text, named_device}
pub use Rattle.pld_device.specs.Macrocells.{device_logic}
pub use Rattle.pld_device.specs.Table.{Table, cell_at}
pub use Rattle.pld_order.specs.Graphs.{HasLoop, HasNoLoop}
pub use Rattle.reports.specs.Summary.{design_cells, summary_of}
