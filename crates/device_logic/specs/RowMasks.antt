-- Rows as what they ask of a point's pins and of its Qs (this project's rule).
use Rattle.std.specs.Prelude.{◌≡◌, ℕ, ◌<◌, Bool, ◌&&◌, List, get_or, length}
use Rattle.device_logic.specs.Prelude.{IsPoint, Levels, row_value, Table, has_point}
use Rattle.device_logic.specs.declared.row_mask.RowMask.{RowMask}

-- each pin and each Q has the level that is asked
abbrev pub holds : RowMask → Levels → Bool
holds mask at = has_point mask.pins at.pins && has_point mask.q at.q

-- the second holds at the points at which the first does and the test passes
abbrev pub HoldsWith : RowMask → RowMask → (Levels → Bool) → Type 0
HoldsWith mask with_more test = (at : Levels) → IsPoint at → holds with_more at ≡ (holds mask at && test at)

-- it holds at the points at which the row is true
abbrev pub IsMask : Table → List Bool → ℕ → RowMask → Type 0
IsMask t fuses row mask = (at : Levels) → IsPoint at → holds mask at ≡ row_value t fuses at row

-- a mask for each row
pub record AreMasks (t : Table) (fuses : List Bool) (masks : List RowMask) : Type 0 where
  pub size : length masks ≡ t.rows
  pub each : (row : ℕ) (d : RowMask) → row < t.rows → IsMask t fuses row (get_or masks row d)
