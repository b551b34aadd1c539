-- How a run ends, whatever the command: a status, the text of its report, and what it puts under OUT (this project's rule).
use Rattle.std.specs.Prelude.{ℕ, ◌<◌, List, ◌++◌, length, Option, None, codes}
pub use Rattle.jedec_reader.specs.DeviceFiles.{limit}

-- the bytes that are put under a name
pub record Output : Type 0 where
  pub name : List ℕ
  pub bytes : List ℕ

-- the status and the whole text of the report if it is reported in full, and what is put under a name, if any
pub record Ending : Type 0 where
  pub status : ℕ
  pub text : List ℕ
  pub output : Option Output

-- an ending that puts nothing under any name
abbrev pub ends : (status : ℕ) → (text : List ℕ) → Ending
ends status text = record { status = status; text = text; output = None }

-- the line on lack of memory
abbrev pub memory_line : List ℕ
memory_line = codes "error memory\n"

-- the file of this name was not read, or not written
abbrev pub file_fault : (name : List ℕ) → Ending
file_fault name = ends 6 (codes "error file " ++ name ++ codes "\n")

-- ---- bytes over the limit

abbrev pub IsTooLong : List ℕ → Type 0
IsTooLong bytes = limit < length bytes

abbrev pub too_long_line : List ℕ
too_long_line = codes "error TooLong\n"
