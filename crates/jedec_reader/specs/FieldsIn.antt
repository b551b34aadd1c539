-- The fields of a fuse file's bytes (JESD3-C, the fields between the start and end bytes).
use Rattle.std.specs.Prelude.{ℕ, List}
use Rattle.jedec_reader.specs.Prelude.{Field, frame_of, Read, ◌>>=◌, Table}
use Rattle.jedec_file.specs.FieldLists.{fields_of}

-- the fields of the text between the two bytes
abbrev pub fields_in : Table → List ℕ → Read (List Field)
fields_in t bytes = frame_of bytes >>= λ framed. fields_of t framed
