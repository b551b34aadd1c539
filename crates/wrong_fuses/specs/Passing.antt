-- What is known of a chip that passes the vectors (this project's rule).
use Rattle.std.specs.Prelude.{◌≡◌, Bool, true, false, List, [], Contains}
use Rattle.wrong_fuses.specs.Prelude.{Table, device_logic, IsVectorRun, RunsAlike}
use Rattle.jedec_file.specs.FuseFile.{FuseFile}
use Rattle.wrong_fuses.specs.declared.verdict.Judged.{Judged}
use Rattle.wrong_fuses.specs.declared.verdict.Verdict.{Verdict}
use Rattle.wrong_fuses.specs.declared.verdict.Verdict.TheVariants.{Found, Same, Missed, Refused, OtherMode}
use Rattle.wrong_fuses.specs.Faults.{with_wrong}

-- found, or the same
abbrev pub is_decided : Verdict → Bool
is_decided (Found v) = true
is_decided Same = true
is_decided Missed = false
is_decided (Refused fault) = false
is_decided OtherMode = false

-- the chip has the file's fuses, or one of them is wrong that is neither missed nor refused
pub data HasOneWrongAtMost (fuses : List Bool) (list : List Judged) : (chip : List Bool) → Type 0 where
  None : HasOneWrongAtMost fuses list fuses
  One : (it : Judged) → Contains list it → is_decided it.verdict ≡ true → HasOneWrongAtMost fuses list (with_wrong fuses it.fuse)

-- such a chip, if it agrees with all vectors, shows in every run what the right one shows
abbrev pub ShowsTheRight : Table → FuseFile → List Judged → Type 0
ShowsTheRight t file list =
    (chip : List Bool) → HasOneWrongAtMost file.fuses list chip
    → (default : Bool) → IsVectorRun (device_logic t chip) default file.vectors []
    → RunsAlike (device_logic t chip) (device_logic t file.fuses) × RunsAlike (device_logic t file.fuses) (device_logic t chip)
