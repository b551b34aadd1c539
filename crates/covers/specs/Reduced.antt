-- What reduction takes away of a row (reduce of two-level minimisation).
use Rattle.std.specs.Prelude.{ℕ, ◌≡◌, Bool, true, false, List, length}
use Rattle.covers.specs.declared.cube.Cube.{Cube}
use Rattle.covers.specs.Cubes.{covers, has_point}

-- the second cube has each needed point of the first that the other rows lack
abbrev pub IsReduced : List Cube → List Cube → ℕ → Cube → Cube → Type 0
IsReduced others needed vars c d =
    (p : List Bool) → length p ≡ vars → covers needed p ≡ true → has_point c p ≡ true → covers others p ≡ false → has_point d p ≡ true
