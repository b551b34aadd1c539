-- Covers: lists of cubes as sets of points (sum-of-products form). A point has as many levels as there are variables.
use Rattle.std.specs.Prelude.{ℕ, ◌≡◌, Bool, true, List, length}
use Rattle.covers.specs.declared.cube.Cube.{Cube}
use Rattle.covers.specs.Cubes.{has_point, covers}

-- every point is in some cube: the cover is a tautology
abbrev pub CoversAll : List Cube → ℕ → Type 0
CoversAll cubes vars = (p : List Bool) → length p ≡ vars → covers cubes p ≡ true

-- every point of the cube is in some cube of the list
abbrev pub CoversCube : List Cube → Cube → ℕ → Type 0
CoversCube cubes cube vars = (p : List Bool) → length p ≡ vars → has_point cube p ≡ true → covers cubes p ≡ true

-- every point of the second list is in the first
abbrev pub CoversList : List Cube → List Cube → ℕ → Type 0
CoversList rows others vars = (p : List Bool) → length p ≡ vars → covers others p ≡ true → covers rows p ≡ true
