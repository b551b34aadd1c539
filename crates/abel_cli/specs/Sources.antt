-- The sources of a command, and of a task those that are too long (this project's rule).
use Rattle.std.specs.Prelude.{ℕ, ◌<◌, List, map}
use Rattle.abel_cli.specs.Prelude.{Map, bytes_at, IsTooLong, source_at, Command, Task, source_count}

-- the sources of a command, in order
abbrev pub sources_of : Map → Command → List (List ℕ)
sources_of files command = map (bytes_at files) command.inputs

-- some source of the task has too many bytes
abbrev pub HasLongSource : Task → List (List ℕ) → Type 0
HasLongSource task sources = (place : ℕ) × (place < source_count task) × IsTooLong (source_at sources place)
