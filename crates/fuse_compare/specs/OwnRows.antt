-- Private: rows that are true with one of two fuse lists if no row of their group is with the other, and masks of them
-- (this project's rule).
use Rattle.std.specs.Prelude.{◌≡◌, ℕ, ◌+◌, ◌<◌, ◌≤◌, Bool, true, false, List, length}
use Rattle.fuse_compare.specs.Prelude.{list_any, range_with_len, IsPoint, Levels, is_enabled, or_value, row_if_any, is_inverted, stores, Table, cell_at, AllAskBelow, covers, RowMask}
use Rattle.pld_device.specs.Rows.{pair_values, row_value}
use Rattle.covers.specs.declared.cube.Cube.{Cube}
use Rattle.fuse_compare.specs.Cut.{some_holds}
use Rattle.fuse_compare.specs.declared.group.Group.{Group}

-- the group's rows are rows of the array
abbrev pub InArray : Table → Group → Type 0
InArray t rows = rows.first + rows.room ≤ t.rows

-- some row of the group is true
abbrev pub some_row : Table → List Bool → Group → Levels → Bool
some_row t fuses rows at = list_any (row_value t fuses at) (range_with_len rows.first rows.room)

-- the same cells are registers with both
abbrev pub StoreSame : Table → (a b : List Bool) → Type 0
StoreSame t a b = (c : ℕ) → c < length t.cells → stores t a c ≡ stores t b c

-- the group's rows as a cover over the column pairs: of the values that these carry at a point it has those if some row
-- of the group is true
pub record IsGroupCover (t : Table) (fuses : List Bool) (rows : Group) (cubes : List Cube) : Type 0 where
  pub below : AllAskBelow (length t.pairs) cubes
  pub points : (at : Levels) → IsPoint at → covers cubes (pair_values t fuses at) ≡ some_row t fuses rows at

-- if no mask of the list holds, the two tests answer the same
abbrev pub SameOutside : List RowMask → (test other : Levels → Bool) → Type 0
SameOutside own test other = (at : Levels) → IsPoint at → some_holds own at ≡ false → test at ≡ other at

-- if no mask of the second list holds, none of the first does
abbrev pub HoldsMore : (own more : List RowMask) → Type 0
HoldsMore own more = (at : Levels) → some_holds more at ≡ false → some_holds own at ≡ false

-- if no mask of the list holds and the first test passes, the second does
abbrev pub CoveredOutside : List RowMask → (test other : Levels → Bool) → Type 0
CoveredOutside own test other = (at : Levels) → IsPoint at → some_holds own at ≡ false → test at ≡ true → other at ≡ true

-- the second list has the first one's masks, and with it some row of the group is true with the fuses `b` if one is with
-- `a`
pub record Covers (t : Table) (a b : List Bool) (rows : Group) (own more : List RowMask) : Type 0 where
  pub longer : HoldsMore own more
  pub covered : CoveredOutside more (some_row t a rows) (some_row t b rows)

-- the second list has the first one's masks, and outside it both tests answer the same
pub record MakesSame (test other : Levels → Bool) (own more : List RowMask) : Type 0 where
  pub longer : HoldsMore own more
  pub same : SameOutside more test other

-- outside the list, a cell is enabled alike and has the same OR
pub record SameCell (t : Table) (a b : List Bool) (own : List RowMask) (c : ℕ) : Type 0 where
  pub enable : SameOutside own (λ at. is_enabled t a at c) (λ at. is_enabled t b at c)
  pub any_row : SameOutside own (λ at. or_value t a at c) (λ at. or_value t b at c)

-- the second list has the first one's masks, and makes a cell the same
pub record MakesCell (t : Table) (a b : List Bool) (c : ℕ) (own more : List RowMask) : Type 0 where
  pub longer : HoldsMore own more
  pub cell : SameCell t a b more c

-- the cell is of the same kind and polarity with both
abbrev pub SameKind : Table → (a b : List Bool) → ℕ → Type 0
SameKind t a b c = (stores t a c ≡ stores t b c) × (is_inverted t a c ≡ is_inverted t b c)

-- outside the list all cells, the reset and the preset are the same
pub record AreOwn (t : Table) (a b : List Bool) (own : List RowMask) : Type 0 where
  pub cells : (c : ℕ) → c < length t.cells → SameCell t a b own c
  pub reset : SameOutside own (λ at. row_if_any t a at t.reset) (λ at. row_if_any t b at t.reset)
  pub preset : SameOutside own (λ at. row_if_any t a at t.preset) (λ at. row_if_any t b at t.preset)

-- the cell isn't on the pin, or it is never enabled
abbrev pub NeverDrives : Table → List Bool → (c pin : ℕ) → Type 0
NeverDrives t fuses c pin = (cell_at t c).pin ≡ pin → (at : Levels) → IsPoint at → is_enabled t fuses at c ≡ false

-- the reset row, if there is one, is never true
abbrev pub NeverResets : Table → List Bool → Type 0
NeverResets t fuses = (at : Levels) → IsPoint at → row_if_any t fuses at t.reset ≡ false
