-- What expansion makes of a cover, and what a row that is left out must not take away (expand and irredundant of
-- two-level minimisation).
use Rattle.std.specs.Prelude.{ℕ, ◌≡◌, ◌≤◌, Bool, true, List, length, All}
use Rattle.covers.specs.declared.cube.Cube.{Cube}
use Rattle.covers.specs.Cubes.{AllAskBelow, covers, has_point}
use Rattle.covers.specs.Covers.{CoversList}
use Rattle.covers.specs.Prime.{IsPrime}

-- prime rows, no more than needed cubes: together they are true at every needed point and only at allowed ones
pub record IsExpanded (allowed needed : List Cube) (vars : ℕ) (rows : List Cube) : Type 0 where
  pub at_needed : CoversList rows needed vars
  pub at_allowed : CoversList allowed rows vars
  pub prime : All (IsPrime allowed vars) rows
  pub below : AllAskBelow vars rows
  pub few : length rows ≤ length needed

-- each point that two cubes have in common is in the cover
abbrev pub CoversBoth : List Cube → Cube → Cube → ℕ → Type 0
CoversBoth rows c d vars = (p : List Bool) → length p ≡ vars → has_point c p ≡ true → has_point d p ≡ true → covers rows p ≡ true

-- each point that the cube and a needed one have in common is in the cover
abbrev pub CoversCommon : List Cube → List Cube → Cube → ℕ → Type 0
CoversCommon rows needed cube vars = (p : List Bool) → length p ≡ vars → covers needed p ≡ true → has_point cube p ≡ true → covers rows p ≡ true
