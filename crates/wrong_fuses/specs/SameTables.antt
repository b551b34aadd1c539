-- Fuses that mean the same, row by row and cell by cell (this project's rule). A private helper: no public clause cites it.
use Rattle.std.specs.Prelude.{◌≡◌, ℕ, ◌<◌, Bool, List, length}
use Rattle.wrong_fuses.specs.Prelude.{IsPoint, Levels, Table, is_inverted, row_value, stores}

-- the row has the same value at every point
abbrev pub SameRow : Table → (a b : List Bool) → ℕ → Type 0
SameRow t a b row = (at : Levels) → IsPoint at → row_value t a at row ≡ row_value t b at row

-- the cell is of the same kind and polarity
abbrev pub SameKind : Table → (a b : List Bool) → ℕ → Type 0
SameKind t a b c = (stores t a c ≡ stores t b c) × (is_inverted t a c ≡ is_inverted t b c)

-- each row has the same value, and each cell is of the same kind
pub record MeanSame (t : Table) (a b : List Bool) : Type 0 where
  pub rows : (row : ℕ) → row < t.rows → SameRow t a b row
  pub kinds : (c : ℕ) → c < length t.cells → SameKind t a b c
