-- What test vectors say of a single wrong fuse (this project's rule).
use Rattle.std.specs.Prelude.{◌≡◌, ◌≢◌, ℕ, max, Bool, true, false, List, [], ◌∷◌, Option, None, Some, map, All}
use Rattle.wrong_fuses.specs.Prelude.{Logic, Table, device_logic, Mismatch, IsVectorRun, CanBeLoaded, IsLoadFault, AreAlike, HasFixedLevels}
use Rattle.jedec_file.specs.FuseFile.{FuseFile}
use Rattle.device_logic.specs.declared.fault.SimFault.{SimFault}
use Rattle.device_logic.specs.declared.fault.SimFault.TheVariants.{OutOfMemory}
use Rattle.wrong_fuses.specs.declared.verdict.Grade.{Grade}
use Rattle.wrong_fuses.specs.declared.verdict.Judged.{Judged}
use Rattle.wrong_fuses.specs.declared.verdict.Verdict.{Verdict}
use Rattle.wrong_fuses.specs.declared.verdict.Verdict.TheVariants.{Found, Same, Missed, Refused, OtherMode}
use Rattle.wrong_fuses.specs.Faults.{with_wrong, faults_of}

-- the vector of the first mismatch
abbrev pub first_vector : List Mismatch → Option ℕ
first_vector [] = None
first_vector (it ∷ list) = Some it.vector

-- each of the logic's runs first disagrees with the vectors at this one; None: with no vector
abbrev pub FirstIs : Logic → (default : Bool) → (vectors : List (List ℕ)) → Option ℕ → Type 0
FirstIs m default vectors first =
    (list : List Mismatch) → IsVectorRun m default vectors list → first_vector list ≡ first

-- vector v shows that the chip isn't the right one, whatever the level of the pins that no vector drives: with
-- either level some vector disagrees, and v is the later one of the two that do so first
pub record IsFound (m : Logic) (vectors : List (List ℕ)) (v : ℕ) : Type 0 where
  pub low : ℕ
  pub high : ℕ
  pub at_low : FirstIs m false vectors (Some low)
  pub at_high : FirstIs m true vectors (Some high)
  pub later : v ≡ max low high

-- with one of the two levels no vector disagrees
pub record Passes (m : Logic) (vectors : List (List ℕ)) : Type 0 where
  pub level : Bool
  pub none : FirstIs m level vectors None

-- a vector shows it; None: with one of the two levels none does
abbrev pub IsFoundBy : Logic → (vectors : List (List ℕ)) → Option ℕ → Type 0
IsFoundBy m vectors (Some v) = IsFound m vectors v
IsFoundBy m vectors None = Passes m vectors

-- fuses that make a loop, or a reset that depends on a register
abbrev pub IsRefusal : Table → (wrong : List Bool) → SimFault → Type 0
IsRefusal t wrong fault = IsLoadFault t wrong fault × (fault ≢ OutOfMemory)

-- what is said of a chip that can be simulated, against the right one
abbrev pub IsSaid : (right m : Logic) → (vectors : List (List ℕ)) → Verdict → Type 0
IsSaid right m vectors (Found v) = IsFound m vectors v
IsSaid right m vectors Same = AreAlike right m
IsSaid right m vectors Missed = Passes m vectors × (AreAlike right m → ⊥)
IsSaid right m vectors (Refused fault) = ⊥
IsSaid right m vectors OtherMode = ⊥

-- the verdict on a chip with these fuses in place of the file's
abbrev pub IsVerdict : Table → FuseFile → (wrong : List Bool) → Verdict → Type 0
IsVerdict t file wrong (Refused fault) = IsRefusal t wrong fault
IsVerdict t file wrong OtherMode = HasFixedLevels t wrong → ⊥
IsVerdict t file wrong verdict =
    CanBeLoaded t wrong × IsSaid (device_logic t file.fuses) (device_logic t wrong) file.vectors verdict

-- the verdict on the file's fuses with one of them wrong
abbrev pub IsJudged : Table → FuseFile → Judged → Type 0
IsJudged t file it = IsVerdict t file (with_wrong file.fuses it.fuse) it.verdict

-- each fuse that can be wrong is judged, once and in rising order
pub record AreJudged (t : Table) (file : FuseFile) (list : List Judged) : Type 0 where
  pub whole : map (λ (it : Judged). it.fuse) list ≡ faults_of t
  pub each : All (IsJudged t file) list

-- the file with other fuses, and this level of the pins that no vector drives
abbrev pub tried : FuseFile → List Bool → Bool → FuseFile
tried file fuses level =
    record { fuses = fuses; listed = file.listed; vectors = file.vectors; default_level = level }

-- the list of mismatches of the logic's run, and no other is
pub record IsTheList (m : Logic) (default : Bool) (vectors : List (List ℕ)) (list : List Mismatch) : Type 0 where
  pub run : IsVectorRun m default vectors list
  pub only : (other : List Mismatch) → IsVectorRun m default vectors other → other ≡ list

-- what the right device disagrees with, with either level of the pins that no vector drives
pub record AreOfRight (t : Table) (file : FuseFile) (grade : Grade) : Type 0 where
  pub low : IsTheList (device_logic t file.fuses) false file.vectors grade.low
  pub high : IsTheList (device_logic t file.fuses) true file.vectors grade.high
