-- How many vectors a fuse file has that is read (JESD3-C, test vector field).
use Rattle.std.specs.Prelude.{◌≡◌, ℕ, ◌≤◌, List, length, Ok}
use Rattle.abel_commands.specs.Prelude.{Table, FuseFile, file_of}

-- bytes that are read as a fuse file have at most 65,535 vectors
abbrev pub ReadFilesHaveFewVectors : Type 0
ReadFilesHaveFewVectors =
    (t : Table) (bytes : List ℕ) (file : FuseFile) → file_of t bytes ≡ Ok file → length file.vectors ≤ 65535
