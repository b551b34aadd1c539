-- `read DEVICE IN OUT [mend]`: how it ends (this project's rule).
use Rattle.std.specs.Prelude.{◌≡◌, ℕ, Bool, ◌⊎◌, List, Some}
use Rattle.form_commands.specs.DumpLines.{dump_report}
use Rattle.form_commands.specs.Dumps.{IsDump, IsRefusedDump, table_with}
use Rattle.form_commands.specs.Prelude.{Ending, FuseFile, IsFileOf, Table, ends, too_long_line}
use Rattle.form_commands.specs.declared.dump.Way.{Way}

-- the ending that puts bytes under OUT
abbrev pub puts : (text output written : List ℕ) → Ending
puts text output written = record { status = 0; text = text; output = Some (record { name = output; bytes = written }) }

-- the bytes of OUT are a fuse file of the device, in the mode that its fuses say, that says just what the dump says, and this is
-- what is reported
pub record IsReadInto (t : Table) (mends : Bool) (bytes written report : List ℕ) : Type 0 where
  pub how : Way
  pub file : FuseFile
  pub dump : IsDump t mends bytes how file
  pub is : IsFileOf (table_with t file.fuses) written file
  pub told : report ≡ dump_report t how file

-- how it ends: such a file is written; IN is no dump; or no file that says what IN says is within the limit
abbrev pub ReadEnds : Table → (mends : Bool) → (output bytes : List ℕ) → Ending → Type 0
ReadEnds t mends output bytes e =
    ((written report : List ℕ) × IsReadInto t mends bytes written report × (e ≡ puts report output written))
    ⊎ (((report : List ℕ) × IsRefusedDump t mends bytes report × (e ≡ ends 4 report))
    ⊎ ((how : Way) × (file : FuseFile) × IsDump t mends bytes how file × (e ≡ ends 4 too_long_line)))
