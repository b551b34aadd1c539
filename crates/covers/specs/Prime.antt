-- Prime and irredundant lists of rows (two-level minimisation). The needed cover is the on-set; the allowed cover
-- is the on-set with the don't-care set.
use Rattle.std.specs.Prelude.{ℕ, ◌≡◌, ◌<◌, Bool, true, List, length, remove, All}
use Rattle.covers.specs.declared.cube.Cube.{Cube}
use Rattle.covers.specs.Cubes.{asks, literal_cube, without}
use Rattle.covers.specs.Covers.{CoversCube, CoversList}

-- no literal can be left out of the row: without it the row has a point that is not allowed
abbrev pub IsPrime : List Cube → ℕ → Cube → Type 0
IsPrime allowed vars c = (v : ℕ) (level : Bool) → v < vars → asks v level c ≡ true → CoversCube allowed (without (literal_cube v level) c) vars → ⊥

-- no row can be left out of the list: without it the list lacks a point that is needed
abbrev pub IsIrredundant : List Cube → ℕ → List Cube → Type 0
IsIrredundant needed vars rows = (k : ℕ) → k < length rows → CoversList (remove rows k) needed vars → ⊥

-- true at every needed point and only at allowed ones, and no literal and no row can be left out
pub record IsPrimeIrredundant (needed allowed : List Cube) (vars : ℕ) (rows : List Cube) : Type 0 where
  pub at_needed : CoversList rows needed vars
  pub at_allowed : CoversList allowed rows vars
  pub prime : All (IsPrime allowed vars) rows
  pub irredundant : IsIrredundant needed vars rows
