-- The words that the proofs of this crate are said in, passed on from one place. Declares nothing.
pub use Rattle.std.proofs.lemmas.List.{append-nil, get_or-map, get_or-replicate, length-map, length-replicate}
pub use Rattle.std.proofs.lemmas.Option.{none-some}
pub use Rattle.abel_commands.specs.Counts.{HasRisen, HasStayed}
pub use Rattle.abel_commands.specs.Ending.{Ending, Output, file_fault, memory_line}
pub use Rattle.abel_commands.specs.SourceCommands.{IsRefused, listed, written}
pub use Rattle.abel_commands.specs.Sources.{source_at, sources_seen, texts}
pub use Rattle.abel_commands.specs.View.{command_seen, ending_seen, output_seen, view}
pub use Rattle.abel_commands.specs.Words.{Check, Command, Compare, Compile, Decompile, Demo, IsCompile, IsNoCommand, ListSource, Simulate, Task, command_of}
pub use Rattle.abel_commands.specs.Words.{on_file, source_count}
pub use Rattle.devices.specs.Models.{table_at}
pub use Rattle.file_models.specs.FileModels.{file_table}
pub use Rattle.outside.specs.Causes.{Rose}
pub use Rattle.outside.specs.Outside.{Map, SameBut, SameFiles, bytes_at}
pub use Rattle.abel_cli.specs.Call.{Asked, Heard, asked, heard}
pub use Rattle.abel_cli.specs.Further.{HasCompiled, IsRightOrOld}
pub use Rattle.abel_cli.specs.Promises.{EndsAsCalled, EndsInFileFault, IsMeant, LeavesFiles, MeansOn, Promises}
pub use Rattle.abel_cli.specs.Right.{IsRight}
pub use Rattle.abel_cli.specs.Run.{CallsFor, Comes, Ends, EndsOn, IsCalledFor, Means, Runs}
pub use Rattle.abel_cli.specs.Telling.{Puts, TakesFront, TakesFrontAndMemory, Tells}
