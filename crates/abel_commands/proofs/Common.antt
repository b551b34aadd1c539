-- The words that the proofs of this crate are said in, passed on from one place. Declares nothing.
pub use Rattle.std.proofs.lemmas.Bool.{eqb-true, lt-ltb, ltb-true, true≢false}
pub use Rattle.std.proofs.lemmas.List.{get_or-map, length-append, length-map, map-append, map_more, nil_from_length}
pub use Rattle.std.proofs.lemmas.List.FromFn.{length-range_with_len, map-range_with_len_more}
pub use Rattle.std.proofs.lemmas.Option.{get_or_from_slice_get, none-some, slice_get-map, slice_get_read, slice_get_within}
pub use Rattle.std.proofs.lemmas.Result.{IfOk-weaker}
pub use Rattle.std.specs.Char.{is_ascii_digit}
pub use Rattle.std.specs.Fmt.{decimal}
pub use Rattle.std.specs.Global.{Vec}
pub use Rattle.std.specs.List.{cons_option, list_all, prefix_len, range_with_len}
pub use Rattle.abel_compile.specs.Correct.{IsCompiled}
pub use Rattle.abel_compile.specs.declared.compiled.Compiled.{Compiled}
pub use Rattle.device_logic.specs.declared.fault.SimFault.{SimFault}
pub use Rattle.device_logic.specs.declared.fault.SimFault.TheVariants.{DeviceLoop, DeviceResetReadsRegister, OutOfMemory, UnsupportedCondition}
pub use Rattle.device_sim.specs.Simulated.{IsSimFault, IsSimulated, IsTheOnlyList, first_unsupported}
pub use Rattle.device_sim.specs.declared.report.Mismatch.{Mismatch}
pub use Rattle.device_sim.specs.declared.report.Report.{Report}
pub use Rattle.devices.specs.Models.{table_at}
pub use Rattle.fuse_compare.specs.Alike.{AreAlike, DifferAs, IsDifference, RunsAlike}
pub use Rattle.fuse_compare.specs.declared.difference.Difference.{Difference}
pub use Rattle.jedec_file.specs.FieldLists.{fields_of, pieces}
unfoldable pub use Rattle.jedec_file.specs.FieldLists.{behind_design, field_at, fields_from, no_field}
pub use Rattle.jedec_file.specs.FileText.{ETX, STX, byte, four_hex, level_char}
pub use Rattle.jedec_file.specs.Frame.{four_hex_value}
unfoldable pub use Rattle.jedec_file.specs.Frame.{check_sum, frame_of, length_of, start_of, sum_at}
pub use Rattle.jedec_file.specs.FuseFile.{FuseFile, by_pins, default_fuse, default_said, first_unlisted, fuse_count, is_size, last_of, none_unlisted, order_of}
pub use Rattle.jedec_file.specs.FuseFile.{size_said, sum_agrees, sum_said, vector_at}
unfoldable pub use Rattle.jedec_file.specs.FuseFile.{contents_of, default_of, file_of, fuse_sum_read, fuses_said, size_of, vectors_of}
pub use Rattle.jedec_file.specs.FuseSums.{fuse_sum_of}
pub use Rattle.jedec_file.specs.Refusals.{Read, Refuses, some_or, ◌>>=◌}
pub use Rattle.jedec_file.specs.TestVectors.{chars_of}
pub use Rattle.jedec_file.specs.declared.field.Field.{Field}
pub use Rattle.jedec_file.specs.declared.jedec_fault.JedecFault.{JedecFault}
pub use Rattle.jedec_reader.specs.Contents.{contents}
pub use Rattle.outside.specs.Outside.{Map, SameFiles, bytes_at}
pub use Rattle.outside.specs.declared.files.ReadFault.{ReadFault}
pub use Rattle.pld_base.specs.Bits.{is_on}
unfoldable pub use Rattle.pld_base.specs.Bits.{bits}
pub use Rattle.pld_base.specs.DeviceNames.{device_text, named_device}
pub use Rattle.pld_base.specs.declared.device_name.DeviceName.{DeviceName}
pub use Rattle.pld_base.specs.declared.model.Model.{Model}
pub use Rattle.pld_device.specs.Macrocells.{device_logic}
pub use Rattle.pld_device.specs.Table.{Table, cell_at}
pub use Rattle.reports.specs.Summary.{design_cells, summary_of}
unfoldable pub use Rattle.reports.specs.Summary.{products_used}
pub use Rattle.abel_commands.specs.CompareCommand.{CompareEnds, CompareMeans, FirstFile, FirstLoad, IsRefusedPair, LongFile, SecondFile, SecondLoad}
pub use Rattle.abel_commands.specs.Comparing.{AreDifferent, AreSame, IsPlain, differ_line, q_on, same_line}
pub use Rattle.abel_commands.specs.DecompileCommand.{DecompileEnds, DecompileMeans, IsDecompiledFile}
pub use Rattle.abel_commands.specs.DemoCommand.{DemoEnds, DemoEndsWithin, DemoMeans, FileEnds, IsFileRun, cells_of, demo_line, demo_told}
pub use Rattle.abel_commands.specs.Ending.{Ending, ends}
pub use Rattle.abel_commands.specs.FuseFiles.{IsBadFile, IsFileOf, IsGoodFile, TooLong, Unread, WrongMode}
pub use Rattle.abel_commands.specs.Limit.{limit}
pub use Rattle.abel_commands.specs.Loading.{CanLoad, HasLoopOrPath, IsBadToLoad, IsNotLoaded, IsRefusedLoad}
pub use Rattle.abel_commands.specs.Simulating.{Agrees, CanRun, Disagrees, HasNoRun, IsReportedRun, RunHas, mismatch_line, pins_text, run_lines, sim_fault_line}
pub use Rattle.abel_commands.specs.SourceCommands.{Fits, IsRefused, IsUnfit, SourceEnds, SourceMeans}
pub use Rattle.abel_commands.specs.Sources.{sources_seen, texts}
pub use Rattle.abel_commands.specs.View.{ending_seen}
pub use Rattle.abel_commands.specs.Words.{Command, Compare, Demo, Task, are_few_digits, command_of, is_seed, on_device, on_file, on_files, on_nothing, seed_of}
pub use Rattle.abel_commands.specs.Words.{source_count, word_device}
