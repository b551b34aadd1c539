-- A row's fuses and columns, walked pair by pair.
use Rattle.std.proofs.Common.{◌≡◌, ℕ, zero, suc, ◌+◌, ◌*◌, ◌-◌, ◌<◌, ◌≤◌, Bool, true, false, not, ◌&&◌, ◌||◌, List, [], ◌∷◌, length, drop, refl, arith, add-one, length-drop}
use Rattle.device_logic.proofs.Common.{and_parts, or_right, true≢false, length-map, length-take, is_on, Levels, Table, carried, columns_of, pair_values, row_fuses, row_is_true, has_whole_pair, connected_pairs, is_whole, is_connected, passes}
use Rattle.std.proofs.Math.Nat.{mul-le-mul_left}

-- the columns k and k + 1 are those of the pair
abbrev pub whole_from : List Bool → ℕ → Bool
whole_from xs k = not (is_on xs k) && not (is_on xs (suc k))

abbrev pub passes_from : (xs vs : List Bool) → (p k : ℕ) → Bool
passes_from xs vs p k = (is_on xs k || is_on vs p) && (is_on xs (suc k) || not (is_on vs p))

whole_at : (xs : List Bool) (p k : ℕ) → k ≡ 2 * p → suc k < length xs → whole_from xs k ≡ true → has_whole_pair xs ≡ true
whole_at [] p k twice low whole = absurd (omega arith)
whole_at (x ∷ []) p k twice low whole = absurd (omega arith)
whole_at (x ∷ y ∷ xs) p zero twice low whole = rw whole refl
whole_at (x ∷ y ∷ xs) p (suc zero) twice low whole = absurd (omega arith)
whole_at (x ∷ y ∷ xs) zero (suc (suc k)) twice low whole = absurd (omega arith)
whole_at (x ∷ y ∷ xs) (suc p) (suc (suc k)) twice low whole =
    or_right (not x && not y) (has_whole_pair xs) (whole_at xs p k (omega arith) (omega arith) whole)

whole_none : (xs : List Bool) → ((p k : ℕ) → k ≡ 2 * p → suc k < length xs → whole_from xs k ≡ false) → has_whole_pair xs ≡ false
whole_none [] none = refl
whole_none (x ∷ []) none = refl
whole_none (x ∷ y ∷ xs) none =
    rw (none 0 0 refl (omega arith), whole_none xs (λ p k twice low. none (suc p) (suc (suc k)) (omega (arith, twice)) (omega (arith, low)))) refl

connected_at : (xs : List Bool) (p k : ℕ) → k ≡ 2 * p → suc k < length xs → is_on (connected_pairs xs) p ≡ (not (is_on xs k) || not (is_on xs (suc k)))
connected_at [] p k twice low = absurd (omega arith)
connected_at (x ∷ []) p k twice low = absurd (omega arith)
connected_at (x ∷ y ∷ xs) zero zero twice low = refl
connected_at (x ∷ y ∷ xs) (suc p) zero twice low = absurd (omega arith)
connected_at (x ∷ y ∷ xs) p (suc zero) twice low = absurd (omega arith)
connected_at (x ∷ y ∷ xs) zero (suc (suc k)) twice low = absurd (omega arith)
connected_at (x ∷ y ∷ xs) (suc p) (suc (suc k)) twice low = connected_at xs p k (omega arith) (omega arith)

passes_at : (xs vs : List Bool) (p k : ℕ) → length xs ≡ 2 * length vs → k ≡ 2 * p → suc k < length xs → passes_from xs vs p k ≡ false → row_is_true xs (columns_of vs) ≡ false
passes_at [] vs p k long twice low off = absurd (omega arith)
passes_at (x ∷ []) vs p k long twice low off = absurd (omega arith)
passes_at (x ∷ y ∷ xs) [] p k long twice low off = absurd (omega arith)
passes_at (x ∷ y ∷ xs) (v ∷ vs) (suc p) zero long twice low off = absurd (omega arith)
passes_at (x ∷ y ∷ xs) (v ∷ vs) zero zero long twice low off = front (x || v) (y || not v) (row_is_true xs (columns_of vs)) off
  where
    front : (a b r : Bool) → (a && b) ≡ false → (a && (b && r)) ≡ false
    front true true r e = absurd (true≢false e)
    front true false r e = refl
    front false b r e = refl
passes_at (x ∷ y ∷ xs) (v ∷ vs) p (suc zero) long twice low off = absurd (omega arith)
passes_at (x ∷ y ∷ xs) (v ∷ vs) zero (suc (suc k)) long twice low off = absurd (omega arith)
passes_at (x ∷ y ∷ xs) (v ∷ vs) (suc p) (suc (suc k)) long twice low off =
    rw (passes_at xs vs p k (omega arith) (omega arith) (omega arith) off) (third (x || v) (y || not v))
  where
    third : (a b : Bool) → (a && (b && false)) ≡ false
    third true true = refl
    third true false = refl
    third false b = refl

passes_all : (xs vs : List Bool) → length xs ≡ 2 * length vs → ((p k : ℕ) → k ≡ 2 * p → suc k < length xs → passes_from xs vs p k ≡ true) → row_is_true xs (columns_of vs) ≡ true
passes_all [] vs long all = refl
passes_all (x ∷ []) [] long all = absurd (omega arith)
passes_all (x ∷ []) (v ∷ vs) long all = absurd (omega arith)
passes_all (x ∷ y ∷ xs) [] long all = absurd (omega arith)
passes_all (x ∷ y ∷ xs) (v ∷ vs) long all =
    let here = and_parts (x || v) (y || not v) (all 0 0 refl (omega arith)) in
    rw (here.0, here.1) (passes_all xs vs (omega arith) (λ p k twice low. all (suc p) (suc (suc k)) (omega (arith, twice)) (omega (arith, low))))

-- a row of the array has a fuse for each column
module _ (t : Table) (fuses : List Bool) (row : ℕ) (even : t.columns ≡ 2 * length t.pairs) (fits : t.columns * t.rows ≤ t.fuses) (long : length fuses ≡ t.fuses) (within : row < t.rows) where
  row_length : length (row_fuses t fuses row) ≡ t.columns
  row_length =
      let below : t.columns * suc row ≤ t.columns * t.rows = mul-le-mul_left t.columns (omega arith) in
      omega (arith, below, length-take (t.columns * row + t.columns - t.columns * row) (drop (t.columns * row) fuses), length-drop (t.columns * row) fuses)

  pub row_whole : (pair : ℕ) → pair < length t.pairs → is_whole (row_fuses t fuses row) pair ≡ true → has_whole_pair (row_fuses t fuses row) ≡ true
  row_whole pair low whole = whole_at (row_fuses t fuses row) pair (2 * pair) refl (omega (arith, row_length)) (rw add-one at whole)

  pub row_whole_none : ((pair : ℕ) → pair < length t.pairs → is_whole (row_fuses t fuses row) pair ≡ false) → has_whole_pair (row_fuses t fuses row) ≡ false
  row_whole_none none = whole_none (row_fuses t fuses row) (λ p k twice low. rw twice (none' p (omega (arith, row_length, twice, low))))
    where
      none' : (p : ℕ) → p < length t.pairs → whole_from (row_fuses t fuses row) (2 * p) ≡ false
      none' p low = rw add-one at (none p low)

  pub row_connected : (pair : ℕ) → pair < length t.pairs → is_on (connected_pairs (row_fuses t fuses row)) pair ≡ is_connected (row_fuses t fuses row) pair
  row_connected pair low = rw add-one (connected_at (row_fuses t fuses row) pair (2 * pair) refl (omega (arith, row_length)))

  module _ (at : Levels) where
    row_values : length (row_fuses t fuses row) ≡ 2 * length (pair_values t fuses at)
    row_values = omega (arith, row_length, length-map t.pairs (carried t fuses at))

    pub row_fails : (pair : ℕ) → pair < length t.pairs → passes (row_fuses t fuses row) (pair_values t fuses at) pair ≡ false → row_is_true (row_fuses t fuses row) (columns_of (pair_values t fuses at)) ≡ false
    row_fails pair low off = passes_at (row_fuses t fuses row) (pair_values t fuses at) pair (2 * pair) row_values refl (omega (arith, row_length)) (rw add-one at off)

    pub row_passes : ((pair : ℕ) → pair < length t.pairs → passes (row_fuses t fuses row) (pair_values t fuses at) pair ≡ true) → row_is_true (row_fuses t fuses row) (columns_of (pair_values t fuses at)) ≡ true
    row_passes all = passes_all (row_fuses t fuses row) (pair_values t fuses at) row_values (λ p k twice low. rw twice (all' p (omega (arith, row_length, twice, low))))
      where
        all' : (p : ℕ) → p < length t.pairs → passes_from (row_fuses t fuses row) (pair_values t fuses at) p (2 * p) ≡ true
        all' p low = rw add-one at (all p low)
