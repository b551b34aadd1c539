-- `compare DEVICE A B`: how it ends, and what that means (this project's rule).
use Rattle.std.specs.Prelude.{◌≡◌, ℕ, ◌≤◌, ◌⊎◌, List, length, None}
use Rattle.abel_commands.specs.Prelude.{Table}
use Rattle.abel_commands.specs.Limit.{limit, IsTooLong}
use Rattle.abel_commands.specs.Comparing.{AreDifferent, AreSame, BehaveAlike, BehaveOtherwise, IsPlain}
use Rattle.abel_commands.specs.Ending.{Ending, ends, too_long_line}
use Rattle.abel_commands.specs.FuseFiles.{IsGoodFile, IsRefusedFile}
use Rattle.abel_commands.specs.Loading.{CanLoad, IsBadToLoad, IsRefusedLoad}

-- why two files aren't compared, in the order in which it is found out, and the line on it
pub data IsRefusedPair (t : Table) (a b report : List ℕ) : Type 0 where
  -- one of them is too long
  LongFile : IsTooLong a ⊎ IsTooLong b → report ≡ too_long_line → IsRefusedPair t a b report
  -- the first is no fuse file of the device
  FirstFile : length b ≤ limit → IsRefusedFile t a report → IsRefusedPair t a b report
  -- the first is one, and the second isn't
  SecondFile : IsGoodFile t a → IsRefusedFile t b report → IsRefusedPair t a b report
  -- both are, and the first isn't loaded
  FirstLoad : IsGoodFile t b → IsRefusedLoad t a report → IsRefusedPair t a b report
  -- the first is loaded, and the second isn't
  SecondLoad : CanLoad t a → IsRefusedLoad t b report → IsRefusedPair t a b report

-- how it ends: the files behave alike, or they don't, or it is reported why they aren't compared
abbrev pub CompareEnds : Table → (a b : List ℕ) → Ending → Type 0
CompareEnds t a b e =
    ((report : List ℕ) × AreSame t a b report × (e ≡ ends 0 report))
    ⊎ (((report : List ℕ) × (it : AreDifferent t a b report) × IsPlain t a b report it × (e ≡ ends 5 report))
    ⊎ ((report : List ℕ) × IsRefusedPair t a b report × (e ≡ ends 4 report)))

-- what such an ending means
pub record CompareMeans (t : Table) (a b : List ℕ) (e : Ending) : Type 0 where
  -- 0, 4 and 5 are its statuses
  pub statuses : (e.status ≡ 0) ⊎ ((e.status ≡ 4) ⊎ (e.status ≡ 5))
  -- 0 is answered exactly if the files behave alike, and says so
  pub same : e.status ≡ 0 → AreSame t a b e.text
  pub same_where : BehaveAlike t a b → e.status ≡ 0
  -- 5 is answered exactly if they don't, and gives a plain state at which they differ
  pub different : e.status ≡ 5 → (it : AreDifferent t a b e.text) × IsPlain t a b e.text it
  pub different_where : BehaveOtherwise t a b → e.status ≡ 5
  -- one of the two occurs for any files that are loaded
  pub compared_where : CanLoad t a → CanLoad t b → (e.status ≡ 0) ⊎ (e.status ≡ 5)
  -- 4 is answered exactly if one of the files is no fuse file of the device, or isn't loaded
  pub bad : e.status ≡ 4 → IsBadToLoad t a ⊎ IsBadToLoad t b
  pub bad_where : IsBadToLoad t a ⊎ IsBadToLoad t b → e.status ≡ 4
  -- nothing is written
  pub unwritten : e.output ≡ None
