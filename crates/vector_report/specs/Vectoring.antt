-- `vectors DEVICE IN OUT`: how it ends (this project's rule).
use Rattle.std.specs.Prelude.{◌≡◌, ℕ, ◌-◌, ◌≤◌, ◌==◌, ◌⊎◌, if◌then◌else◌, List, ◌++◌, length, Option, Some}
use Rattle.vector_report.specs.Prelude.{Ending, FuseFile, GradeEnds, IsFileOf, IsRefusedFile, Output, Table, ends}

-- what a file says with more vectors after its own
abbrev pub with_more : FuseFile → (more : List (List ℕ)) → FuseFile
with_more file more = record {
  fuses = file.fuses;
  listed = file.listed;
  vectors = file.vectors ++ more;
  default_level = file.default_level;
}

-- the one bytes are a fuse file of the device, and the others one that says the same, with more vectors after its own: so many
-- in all at most, or none more
pub record IsWithMore (t : Table) (most : ℕ) (input output : List ℕ) : Type 0 where
  pub file : FuseFile
  pub of : IsFileOf t input file
  pub more : List (List ℕ)
  pub few : length more ≤ most - length file.vectors
  pub says : IsFileOf t output (with_more file more)

-- the ending of a grade, with the graded bytes under a name unless they are refused
abbrev pub put_if_right : (name bytes : List ℕ) → Ending → Ending
put_if_right name bytes graded =
    if graded.status == 4
    then graded
    else record { status = graded.status; text = graded.text; output = Some (record { name = name; bytes = bytes }) }

-- how it ends: bytes with more vectors are graded, and put under OUT unless the right device disagrees with them or isn't
-- simulated; or IN is no fuse file of the device
abbrev pub VectorsEnd : Table → (most : ℕ) → (input name : List ℕ) → Ending → Type 0
VectorsEnd t most input name e =
    ((output : List ℕ) × (graded : Ending)
    × IsWithMore t most input output × GradeEnds t output graded × (e ≡ put_if_right name output graded))
    ⊎ ((report : List ℕ) × IsRefusedFile t input report × (e ≡ ends 4 report))
