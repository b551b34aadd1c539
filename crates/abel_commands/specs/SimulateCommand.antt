-- `simulate DEVICE IN`: how it ends, and what that means (this project's rule).
use Rattle.std.specs.Prelude.{◌≡◌, ℕ, ◌⊎◌, List, None}
use Rattle.abel_commands.specs.Prelude.{Table}
use Rattle.abel_commands.specs.Ending.{Ending, ends}
use Rattle.abel_commands.specs.FuseFiles.{IsBadFile, IsRefusedFile}
use Rattle.abel_commands.specs.Simulating.{Agrees, Disagrees, CanRun, HasMismatch, HasNoMismatch, HasNoRun, IsRefusedRun}

-- the bytes are no fuse file of the device, or one that isn't simulated
abbrev pub IsBadRun : Table → List ℕ → Type 0
IsBadRun t bytes = IsBadFile t bytes ⊎ HasNoRun t bytes

-- how it ends: the run agrees with the vectors, or disagrees, or it is reported why there isn't one
abbrev pub SimulateEnds : Table → (bytes : List ℕ) → Ending → Type 0
SimulateEnds t bytes e =
    ((report : List ℕ) × Agrees t bytes report × (e ≡ ends 0 report))
    ⊎ (((report : List ℕ) × Disagrees t bytes report × (e ≡ ends 5 report))
    ⊎ ((report : List ℕ) × (IsRefusedFile t bytes report ⊎ IsRefusedRun t bytes report) × (e ≡ ends 4 report)))

-- what such an ending means
pub record SimulateMeans (t : Table) (bytes : List ℕ) (e : Ending) : Type 0 where
  -- 0, 4 and 5 are its statuses
  pub statuses : (e.status ≡ 0) ⊎ ((e.status ≡ 4) ⊎ (e.status ≡ 5))
  -- 0 is answered exactly if the run has no mismatch, and says how many vectors there were
  pub agrees : e.status ≡ 0 → Agrees t bytes e.text
  pub agrees_where : HasNoMismatch t bytes → e.status ≡ 0
  -- 5 is answered exactly if it has some, and reports each
  pub disagrees : e.status ≡ 5 → Disagrees t bytes e.text
  pub disagrees_where : HasMismatch t bytes → e.status ≡ 5
  -- what can be run is
  pub runs_where : CanRun t bytes → (e.status ≡ 0) ⊎ (e.status ≡ 5)
  -- 4 is answered exactly for bytes that are no fuse file of the device, or are not simulated
  pub bad : e.status ≡ 4 → IsBadRun t bytes
  pub bad_where : IsBadRun t bytes → e.status ≡ 4
  -- nothing is written
  pub unwritten : e.output ≡ None
