-- Signs that fuses are no dump of a design (this project's rule).
use Rattle.std.specs.Prelude.{ℕ, zero, suc, ◌+◌, ◌*◌, ◌/◌, ◌&&◌, ◌||◌, Bool, true, false, List, take}
use Rattle.std.specs.List.{list_all}
use Rattle.pld_base.specs.Bits.{same_level}
use Rattle.fuse_forms.specs.Prelude.{Table, is_on}

-- the levels of the array
abbrev pub array_of : Table → List Bool → List Bool
array_of t fuses = take (t.columns * t.rows) fuses

-- all have this level, as those of a blank chip's array, or of one that is protected against reading
abbrev pub are_alike : List Bool → Bool → Bool
are_alike levels level = list_all (λ other. same_level other level) levels

-- a test passes for each number below n, and for some number below n
abbrev pub is_each_below : ℕ → (ℕ → Bool) → Bool
is_each_below zero test = true
is_each_below (suc n) test = test n && is_each_below n test

abbrev pub is_some_below : ℕ → (ℕ → Bool) → Bool
is_some_below zero test = false
is_some_below (suc n) test = test n || is_some_below n test

-- the row's pair doesn't have both of its columns connected
abbrev pub is_open_at : Table → List Bool → (row pair : ℕ) → Bool
is_open_at t fuses row pair = is_on fuses (t.columns * row + 2 * pair) || is_on fuses (t.columns * row + 2 * pair + 1)

-- no pair of the row has both of its columns connected, one of which would make it 0
abbrev pub is_row_possible : Table → List Bool → (row : ℕ) → Bool
is_row_possible t fuses row = is_each_below (t.columns / 2) (is_open_at t fuses row)

-- so of some row
abbrev pub is_some_row_possible : Table → List Bool → Bool
is_some_row_possible t fuses = is_some_below t.rows (is_row_possible t fuses)
