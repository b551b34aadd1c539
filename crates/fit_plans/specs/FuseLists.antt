-- The fuses of a device, fuse by fuse: those of the rows by the cubes that they are to hold, and those past the array
-- (this project's rule).
use Rattle.std.specs.Prelude.{ℕ, ◌*◌, ◌/◌, ◌%◌, Bool, false, nat_lt, if◌then◌else◌, Option, None, Some, List, map}
use Rattle.fit_plans.specs.Prelude.{range_with_len, Table, Cube}
use Rattle.fit_plans.specs.RowCubes.{fuse_at, row_of, zeros}

-- the fuse of a column in a row that holds a cube, or nothing
abbrev pub planned_fuse : Option Cube → ℕ → Bool
planned_fuse None column = false
planned_fuse (Some c) column = fuse_at c column

-- the row that holds it
abbrev pub planned_row : Table → Option Cube → List Bool
planned_row t None = zeros t
planned_row t (Some c) = row_of t c

-- the fuse of a number
abbrev pub fuse_level : Table → (plan : ℕ → Option Cube) → (control : ℕ → Bool) → ℕ → Bool
fuse_level t plan control n =
    if nat_lt n (t.columns * t.rows) then planned_fuse (plan (n / t.columns)) (n % t.columns) else control n

-- all of them
unfoldable pub fuses_of : Table → (plan : ℕ → Option Cube) → (control : ℕ → Bool) → List Bool
fuses_of t plan control = map (fuse_level t plan control) (range_with_len 0 t.fuses)
