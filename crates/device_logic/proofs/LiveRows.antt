-- Rows that can be true, and rows that never are.
use Rattle.std.proofs.Common.{◌≡◌, ℕ, ◌*◌, ◌<◌, ◌≤◌, Bool, true, false, not, ◌&&◌, ◌||◌, List, length, get_or, refl, ap, sym, ◌∙◌, zero-add}
use Rattle.device_logic.proofs.Common.{true≢false, not-false, length-map-range_with_len, get_or-map-range_with_len, Levels, Table, has_whole_pair, is_never_true, columns_of, pair_values, row_fuses, row_is_true, is_switched_on, row_value, never_true, is_live, IsArray}

pub live_length : (t : Table) (fuses lives : List Bool) → IsArray t fuses lives → length lives ≡ t.rows
live_length t fuses lives array = ap length array.live ∙ length-map-range_with_len (is_live t fuses) 0 t.rows

pub live_at : (t : Table) (fuses lives : List Bool) (row : ℕ) (d : Bool) → IsArray t fuses lives → row < t.rows → get_or lives row d ≡ is_live t fuses row
live_at t fuses lives row d array within = ap (λ xs. get_or xs row d) array.live ∙ get_or-map-range_with_len (is_live t fuses) 0 t.rows row row d within (zero-add row)

-- a row that isn't live is false
pub dead_value : (t : Table) (fuses : List Bool) (row : ℕ) (at : Levels) → t.columns ≤ 2 * length t.pairs → is_live t fuses row ≡ false → row_value t fuses at row ≡ false
dead_value t fuses row at wide dead = never_true t fuses row at wide (not-false (is_never_true t fuses row) dead)

-- the value of one that is
pub live_value : (t : Table) (fuses : List Bool) (row : ℕ) (at : Levels) → is_live t fuses row ≡ true → row_value t fuses at row ≡ row_is_true (row_fuses t fuses row) (columns_of (pair_values t fuses at))
live_value t fuses row at live = on (is_switched_on t fuses row) (has_whole_pair (row_fuses t fuses row)) (row_is_true (row_fuses t fuses row) (columns_of (pair_values t fuses at))) live
  where
    on : (a b r : Bool) → not (not a || b) ≡ true → (a && r) ≡ r
    on true b r e = refl
    on false b r e = absurd (true≢false (sym e))
