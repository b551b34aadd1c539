-- The order in which the data rows of a cell are written (this project's rule).
use Rattle.std.specs.Prelude.{◌≡◌, ℕ, zero, suc, ◌+◌, ◌*◌, ◌<◌, ◌≤◌, Bool, true, false, if◌then◌else◌, List}
use Rattle.fitter.specs.Prelude.{is_on, row_fuses, Table, cell_at, is_used}

-- the first fuses of a row, read as a binary number: rows that rise as text rise by it
unfoldable pub fuse_number : (columns : ℕ) → List Bool → ℕ
fuse_number zero fuses = 0
fuse_number (suc n) fuses = 2 * fuse_number n fuses + (if is_on fuses n then 1 else 0)

-- of the cell's data rows those that aren't all 0 are the first; each is, as text, at most the next one; and the rest are all 0
pub record AreRowsInOrder (t : Table) (fuses : List Bool) (c : ℕ) : Type 0 where
  pub count : ℕ
  pub few : count ≤ (cell_at t c).room
  pub used : (i : ℕ) → i < count → is_used t fuses ((cell_at t c).first + i) ≡ true
  pub rise : (i : ℕ) → i + 1 < count
      → fuse_number t.columns (row_fuses t fuses ((cell_at t c).first + i)) ≤ fuse_number t.columns (row_fuses t fuses ((cell_at t c).first + (i + 1)))
  pub rest : (i : ℕ) → count ≤ i → i < (cell_at t c).room → is_used t fuses ((cell_at t c).first + i) ≡ false
