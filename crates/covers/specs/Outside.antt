-- A point of a cube that a cover misses. A number says a point: bit v is the level of variable v (this project's rule).
use Rattle.std.specs.Prelude.{ℕ, ◌≡◌, ◌<◌, ◌^◌, true, false, List, Option, None, Some, bit_and, bit_or}
use Rattle.std.specs.Int.{bit_not, w32}
use Rattle.pld_base.specs.Bits.{bits}
use Rattle.covers.specs.declared.cube.Cube.{Cube}
use Rattle.covers.specs.Cubes.{has_point, covers}
use Rattle.covers.specs.Covers.{CoversAll, CoversCube}

-- the point is in no cube of the cover
pub record Misses (cubes : List Cube) (vars : ℕ) (point : ℕ) : Type 0 where
  pub low : point < 2 ^ vars
  pub missed : covers cubes (bits vars point) ≡ false

-- nor is it, and it is in the cube
pub record IsOutside (cubes : List Cube) (cube : Cube) (vars : ℕ) (point : ℕ) : Type 0 where
  pub low : point < 2 ^ vars
  pub inside : has_point cube (bits vars point) ≡ true
  pub missed : covers cubes (bits vars point) ≡ false

-- a point that the cover misses, or None if it has every point
abbrev pub FindsMissed : List Cube → ℕ → Option ℕ → Type 0
FindsMissed cubes vars None = CoversAll cubes vars
FindsMissed cubes vars (Some point) = Misses cubes vars point

-- a point of the cube that the cover misses, or None if it has every point of the cube
abbrev pub FindsOutside : List Cube → Cube → ℕ → Option ℕ → Type 0
FindsOutside cubes cube vars None = CoversCube cubes cube vars
FindsOutside cubes cube vars (Some point) = IsOutside cubes cube vars point

-- the point with the levels that the cube asks
abbrev pub moved_number : Cube → ℕ → ℕ
moved_number c point = bit_and (bit_or point c.yes) (bit_not w32 c.no)
