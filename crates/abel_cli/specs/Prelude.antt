-- The words of the crates below that the clauses of this crate are said in, passed on from one place. Declares nothing.
pub use Rattle.abel_commands.specs.Counts.{Count, HasRisen, HasStayed, count}
pub use Rattle.abel_commands.specs.Ending.{Ending, Output, file_fault, memory_line, usage_ending}
pub use Rattle.abel_commands.specs.Limit.{IsTooLong, limit}
pub use Rattle.abel_commands.specs.Sources.{source_at, sources_seen, texts}
pub use Rattle.abel_commands.specs.View.{command_seen, ending_seen, task_seen, view}
pub use Rattle.abel_commands.specs.Words.{Check, Command, Compare, Compile, Decompile, Demo, IsCompile, IsInput, IsNoCommand, ListSource, Simulate, Task}
pub use Rattle.abel_commands.specs.Words.{command_of, source_count}
pub use Rattle.devices.specs.Models.{table_at}
pub use Rattle.file_models.specs.FileModels.{file_table}
pub use Rattle.outside.specs.Causes.{Begins, Rose}
pub use Rattle.outside.specs.Outside.{Map, SameBut, SameFiles, bytes_at}
