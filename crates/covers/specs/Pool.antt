-- What a pool is to its users (this project's rule).
use Rattle.std.specs.Prelude.{ℕ, ◌≤◌, List, length, slice_range}
use Rattle.covers.specs.declared.cube.Cube.{Cube}
use Rattle.covers.specs.declared.pool.Range.{Range}

-- the cubes in it, and how many more fit
pub record Pool : Type 0 where
  pub cubes : List Cube
  pub spare : ℕ

-- the cubes of a range of it
abbrev pub cubes_in : Pool → Range → List Cube
cubes_in pool range = slice_range pool.cubes range.from range.to

-- the range lies in it
abbrev pub LiesIn : Pool → Range → Type 0
LiesIn pool range = (range.from ≤ range.to) × (range.to ≤ length pool.cubes)
