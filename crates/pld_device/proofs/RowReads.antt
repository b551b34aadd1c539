-- A row has the same value at points at which each pair that it reads has the same value.
use Rattle.std.proofs.Common.{◌≡◌, ℕ, suc, ◌+◌, ◌*◌, ◌-◌, ◌≤◌, Bool, true, false, not, ◌&&◌, ◌||◌, List, [], ◌∷◌, length, drop, refl, ap, sym, ◌∙◌, arith, inl, inr}
use Rattle.pld_device.proofs.Common.{cases_Bool, length-map, length-take, is_on, Table, carried, columns_of, pair_values, row_fuses, row_is_true, is_switched_on, row_value, has_whole_pair, connected_pairs, is_never_true, row_reads}
use Rattle.pld_base.specs.Points.{Levels}

-- one of three is false
third : (a b : Bool) → (a && (b && false)) ≡ false
third true true = refl
third true false = refl
third false b = refl

-- a pair connected with both columns
both : (value r : Bool) → ((false || value) && ((false || not value) && r)) ≡ false
both true r = refl
both false r = refl

-- a row with a whole pair connected is false whatever the pairs carry
pub whole_pair_false : (fuses values : List Bool) → length fuses ≤ 2 * length values → has_whole_pair fuses ≡ true → row_is_true fuses (columns_of values) ≡ false
whole_pair_false [] values fit whole = absurd cc
whole_pair_false (lower ∷ []) values fit whole = absurd cc
whole_pair_false (lower ∷ higher ∷ fuses) [] fit whole = absurd (omega arith)
whole_pair_false (false ∷ false ∷ fuses) (value ∷ values) fit whole = both value (row_is_true fuses (columns_of values))
whole_pair_false (true ∷ higher ∷ fuses) (value ∷ values) fit whole =
    rw (whole_pair_false fuses values (omega arith) whole) (third (true || value) (higher || not value))
whole_pair_false (false ∷ true ∷ fuses) (value ∷ values) fit whole =
    rw (whole_pair_false fuses values (omega arith) whole) (third (false || value) (true || not value))

-- two columns, of which at most one is connected
two_columns : (lower higher v w r s : Bool) → ((not lower || not higher) ≡ true → v ≡ w) → r ≡ s → ((lower || v) && ((higher || not v) && r)) ≡ ((lower || w) && ((higher || not w) && s))
two_columns true true v w r s same rest = rest
two_columns true false v w r s same rest = rw (same refl, rest) refl
two_columns false higher v w r s same rest = rw (same refl, rest) refl

-- without such a pair the row is given by the pairs that have a column connected
connected_same : (fuses values others : List Bool) → length values ≡ length others → ((pair : ℕ) → is_on (connected_pairs fuses) pair ≡ true → is_on values pair ≡ is_on others pair) → row_is_true fuses (columns_of values) ≡ row_is_true fuses (columns_of others)
connected_same [] values others long same = refl
connected_same (lower ∷ fuses) [] [] long same = refl
connected_same (lower ∷ fuses) [] (w ∷ others) long same = absurd (omega arith)
connected_same (lower ∷ fuses) (v ∷ values) [] long same = absurd (omega arith)
connected_same (true ∷ []) (v ∷ values) (w ∷ others) long same = refl
connected_same (false ∷ []) (v ∷ values) (w ∷ others) long same = rw (same 0 refl) refl
connected_same (lower ∷ higher ∷ fuses) (v ∷ values) (w ∷ others) long same =
    two_columns lower higher v w (row_is_true fuses (columns_of values)) (row_is_true fuses (columns_of others)) (same 0) (connected_same fuses values others (omega arith) (λ pair. same (suc pair)))

-- a row has at most one fuse a column
fuses_fit : (t : Table) (fuses : List Bool) (row : ℕ) → length (row_fuses t fuses row) ≤ t.columns
fuses_fit t fuses row =
    omega (arith, length-take (t.columns * row + t.columns - t.columns * row) (drop (t.columns * row) fuses))

-- a row that is never true is false at every point
pub never_true : (t : Table) (fuses : List Bool) (row : ℕ) (at : Levels) → t.columns ≤ 2 * length t.pairs → is_never_true t fuses row ≡ true → row_value t fuses at row ≡ false
never_true t fuses row at wide never =
    off (is_switched_on t fuses row) (has_whole_pair (row_fuses t fuses row)) (row_is_true (row_fuses t fuses row) (columns_of (pair_values t fuses at))) never
    (λ whole. whole_pair_false (row_fuses t fuses row) (pair_values t fuses at) fit whole)
  where
    fit : length (row_fuses t fuses row) ≤ 2 * length (pair_values t fuses at)
    fit = omega (arith, fuses_fit t fuses row, length-map t.pairs (carried t fuses at))

    off : (on whole value : Bool) → (not on || whole) ≡ true → (whole ≡ true → value ≡ false) → (on && value) ≡ false
    off true true value either down = down refl
    off true false value either down = absurd cc
    off false whole value either down = refl

-- a row is given by the pairs that it reads
pub row_same : (t : Table) (fuses : List Bool) (row : ℕ) (a b : Levels) → t.columns ≤ 2 * length t.pairs → ((pair : ℕ) → row_reads t fuses row pair ≡ true → is_on (pair_values t fuses a) pair ≡ is_on (pair_values t fuses b) pair) → row_value t fuses a row ≡ row_value t fuses b row
row_same t fuses row a b wide same =
    elim (cases_Bool (is_never_true t fuses row)) [
      | inl never ↦ never_true t fuses row a wide never ∙ sym (never_true t fuses row b wide never)
      | inr ever ↦
          ap (λ value. is_switched_on t fuses row && value)
          (connected_same (row_fuses t fuses row) (pair_values t fuses a) (pair_values t fuses b)
          (length-map t.pairs (carried t fuses a) ∙ sym (length-map t.pairs (carried t fuses b)))
          (λ pair connected. same pair (rw (ever, connected) refl)))
    ]
