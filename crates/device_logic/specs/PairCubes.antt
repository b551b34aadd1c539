-- Rows as what they ask of the column pairs (this project's rule).
use Rattle.std.specs.Prelude.{◌≡◌, ℕ, ◌<◌, Bool, ◌&&◌, List, get_or, length}
use Rattle.device_logic.specs.Prelude.{IsPoint, Levels, pair_values, row_value, Table, AsksBelow, has_point}
use Rattle.covers.specs.declared.cube.Cube.{Cube}

-- it asks of the pairs' values what the row does
pub record IsPairCube (t : Table) (fuses : List Bool) (row : ℕ) (cube : Cube) : Type 0 where
  pub below : AsksBelow (length t.pairs) cube
  pub points : (at : Levels) → IsPoint at → has_point cube (pair_values t fuses at) ≡ row_value t fuses at row

-- such a cube for each row
pub record ArePairCubes (t : Table) (fuses : List Bool) (cubes : List Cube) : Type 0 where
  pub size : length cubes ≡ t.rows
  pub each : (row : ℕ) (d : Cube) → row < t.rows → IsPairCube t fuses row (get_or cubes row d)

-- the second cube asks one variable besides: of the first one's points it has those that pass the test
pub record AsksBesides (variable : ℕ) (cube more : Cube) (test : List Bool → Bool) : Type 0 where
  pub below : (vars : ℕ) → variable < vars → AsksBelow vars cube → AsksBelow vars more
  pub points : (p : List Bool) → variable < length p → has_point more p ≡ (has_point cube p && test p)
