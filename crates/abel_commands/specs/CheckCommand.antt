-- `check DEVICE IN`: how it ends, and what that means (this project's rule).
use Rattle.std.specs.Prelude.{◌≡◌, ℕ, ◌⊎◌, List, None}
use Rattle.abel_commands.specs.Prelude.{Table}
use Rattle.abel_commands.specs.Checking.{IsChecked}
use Rattle.abel_commands.specs.Ending.{Ending, ends}
use Rattle.abel_commands.specs.FuseFiles.{IsBadFile, IsGoodFile, IsRefusedFile}

-- how it ends: the file's numbers are reported, or why the bytes aren't one
abbrev pub CheckEnds : Table → (bytes : List ℕ) → Ending → Type 0
CheckEnds t bytes e =
    ((report : List ℕ) × IsChecked t bytes report × (e ≡ ends 0 report))
    ⊎ ((report : List ℕ) × IsRefusedFile t bytes report × (e ≡ ends 4 report))

-- what such an ending means
pub record CheckMeans (t : Table) (bytes : List ℕ) (e : Ending) : Type 0 where
  -- 0 and 4 are its statuses
  pub statuses : (e.status ≡ 0) ⊎ (e.status ≡ 4)
  -- 0 is answered exactly for a fuse file of the device, and gives its numbers
  pub checked : e.status ≡ 0 → IsChecked t bytes e.text
  pub checked_where : IsGoodFile t bytes → e.status ≡ 0
  -- 4 is answered exactly for bytes that aren't one: too long, not read, or in the wrong mode
  pub bad : e.status ≡ 4 → IsBadFile t bytes
  pub bad_where : IsBadFile t bytes → e.status ≡ 4
  -- nothing is written
  pub unwritten : e.output ≡ None
