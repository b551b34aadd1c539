-- Rows of a device's array that hold cubes (the devices' datasheets: a fuse of 0 connects its column to the row).
use Rattle.std.specs.Prelude.{◌≡◌, ℕ, ◌+◌, ◌/◌, ◌%◌, ◌<◌, ◌≤◌, ◌==◌, Bool, if◌then◌else◌, List, map, length, replicate, get_or, false}
use Rattle.fit_plans.specs.Prelude.{bit_at, range_with_len, row_fuses, Table, Cube, full_cube}

-- the fuse of a column in the row of a cube: 0 if the cube asks for what the column carries
abbrev pub fuse_at : Cube → ℕ → Bool
fuse_at c column = (if column % 2 == 0 then bit_at c.yes (column / 2) else bit_at c.no (column / 2)) == 0

-- the row of a cube
unfoldable pub row_of : Table → Cube → List Bool
row_of t c = map (fuse_at c) (range_with_len 0 t.columns)

-- the row that is all 0
unfoldable pub zeros : Table → List Bool
zeros t = replicate t.columns false

-- the rows from one on are those of the cubes, and after them rows of zeros up to `room` of them
pub record HoldsCubes (t : Table) (fuses : List Bool) (first room : ℕ) (cubes : List Cube) : Type 0 where
  pub fit : length cubes ≤ room
  pub rows : (i : ℕ) → i < length cubes → row_fuses t fuses (first + i) ≡ row_of t (get_or cubes i full_cube)
  pub rest : (i : ℕ) → length cubes ≤ i → i < room → row_fuses t fuses (first + i) ≡ zeros t
