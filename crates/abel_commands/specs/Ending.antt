-- How a run ends, whatever the command: a status, the text of its report, and what it puts under OUT (this
-- project's rule).
use Rattle.std.specs.Prelude.{ℕ, List, ◌++◌, Option, None, codes}

-- the bytes that are put under a name
pub record Output : Type 0 where
  pub name : List ℕ
  pub bytes : List ℕ

-- the status and the whole text of the report if it is reported in full, and what is put under a name, if
-- any
pub record Ending : Type 0 where
  pub status : ℕ
  pub text : List ℕ
  pub output : Option Output

-- an ending that puts nothing under any name
abbrev pub ends : (status : ℕ) → (text : List ℕ) → Ending
ends status text = record { status = status; text = text; output = None }

-- ---- texts

-- the words that the program takes
abbrev pub usage : List ℕ
usage = codes "usage: abel compile IN OUT\n"
    ++ codes "       abel list IN\n"
    ++ codes "       abel simulate DEVICE IN\n"
    ++ codes "       abel check DEVICE IN\n"
    ++ codes "       abel demo N\n"
    ++ codes "       abel decompile DEVICE IN\n"
    ++ codes "       abel compare DEVICE A B\n"

-- the line on bytes over the limit
abbrev pub too_long_line : List ℕ
too_long_line = codes "error TooLong\n"

-- the line on lack of memory
abbrev pub memory_line : List ℕ
memory_line = codes "error memory\n"

-- ---- endings that are no command's own

-- the words are no command
abbrev pub usage_ending : Ending
usage_ending = ends 1 usage

-- the file of this name was not read, or not written
abbrev pub file_fault : (name : List ℕ) → Ending
file_fault name = ends 6 (codes "error file " ++ name ++ codes "\n")
