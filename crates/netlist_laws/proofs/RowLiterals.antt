-- A row that reads a pair has one literal of it; and a row from which this literal is left out is true as a whole
-- wherever the pair has the literal's value.
use Rattle.std.proofs.Common.{◌≡◌, ◌≢◌, ◌⊎◌, ℕ, zero, suc, ◌+◌, ◌*◌, ◌-◌, ◌<◌, ◌≤◌, Bool, true, false, not, ◌||◌, List, [], ◌∷◌, length, drop, set, refl, ap, sym, ◌∙◌, subst, arith, inl, inr, length-set, get_or-set_other}
use Rattle.netlist_laws.proofs.Common.{cases_eq, and_parts, or_cases, true≢false, length-map, length-take, is_on, Levels, Table, carried, columns_of, pair_values, row_fuses, is_switched_on, row_is_true, row_value, has_whole_pair, connected_pairs, is_never_true, row_reads, row_whole, row_connected, value_without}
use Rattle.pld_device.specs.RowLaws.{CarriesAll}
use Rattle.pld_device.proofs.RowValues.{row_is_true-columns}

-- ---- columns and pairs

column_low : (vs : List Bool) (p k : ℕ) → k ≡ 2 * p → p < length vs → is_on (columns_of vs) k ≡ is_on vs p
column_low [] p k twice low = absurd (omega arith)
column_low (v ∷ vs) zero zero twice low = refl
column_low (v ∷ vs) zero (suc k) twice low = absurd (omega arith)
column_low (v ∷ vs) (suc p) zero twice low = absurd (omega arith)
column_low (v ∷ vs) (suc p) (suc zero) twice low = absurd (omega arith)
column_low (v ∷ vs) (suc p) (suc (suc k)) twice low = column_low vs p k (omega arith) (omega arith)

column_high : (vs : List Bool) (p k : ℕ) → k ≡ 2 * p + 1 → p < length vs → is_on (columns_of vs) k ≡ not (is_on vs p)
column_high [] p k twice low = absurd (omega arith)
column_high (v ∷ vs) p zero twice low = absurd (omega arith)
column_high (v ∷ vs) zero (suc zero) twice low = refl
column_high (v ∷ vs) zero (suc (suc k)) twice low = absurd (omega arith)
column_high (v ∷ vs) (suc p) (suc zero) twice low = absurd (omega arith)
column_high (v ∷ vs) (suc p) (suc (suc k)) twice low = column_high vs p k (omega arith) (omega arith)

length-columns : (vs : List Bool) → length (columns_of vs) ≡ 2 * length vs
length-columns [] = refl
length-columns (v ∷ vs) = let rest = length-columns vs in omega (arith, rest)

pub record HasPair (k : ℕ) : Type 0 where
  pub pair : ℕ
  pub place : (k ≡ 2 * pair) ⊎ (k ≡ 2 * pair + 1)

pub pair_of : (k : ℕ) → HasPair k
pair_of zero = record { pair = 0; place = inl refl }
pair_of (suc zero) = record { pair = 0; place = inr (omega arith) }
pair_of (suc (suc k)) = more (pair_of k)
  where
    more : HasPair k → HasPair (suc (suc k))
    more h = record { pair = suc h.pair; place = elim h.place [ inl e ↦ inl (omega (arith, e)) | inr e ↦ inr (omega (arith, e)) ] }

-- ---- literals

-- the column of a pair that carries its value, or its complement
abbrev pub column_of : ℕ → Bool → ℕ
column_of pair true = 2 * pair
column_of pair false = 2 * pair + 1

-- one of the pair's columns is connected, in a row that isn't always false
pub record Literal (t : Table) (fuses : List Bool) (row pair : ℕ) : Type 0 where
  pub positive : Bool
  pub off : is_on (row_fuses t fuses row) (column_of pair positive) ≡ false
  pub alone : has_whole_pair (row_fuses t fuses row) ≡ false
  pub switched : is_switched_on t fuses row ≡ true

column_below : (pair pairs columns : ℕ) (positive : Bool) → columns ≡ 2 * pairs → pair < pairs → column_of pair positive < columns
column_below pair pairs columns true even low = omega arith
column_below pair pairs columns false even low = omega arith

off_at : (off : Bool) → not off ≡ true → off ≡ false
off_at true e = absurd (true≢false (sym e))
off_at false e = refl

module _ (t : Table) (fuses : List Bool) (row : ℕ) (even : t.columns ≡ 2 * length t.pairs) (fits : t.columns * t.rows ≤ t.fuses) (long : length fuses ≡ t.fuses) (within : row < t.rows) where
  fs : List Bool
  fs = row_fuses t fuses row

  pub literal_of : (pair : ℕ) → pair < length t.pairs → row_reads t fuses row pair ≡ true → Literal t fuses row pair
  literal_of pair low reads =
      let parts = and_parts (not (is_never_true t fuses row)) (is_on (connected_pairs (row_fuses t fuses row)) pair) reads in
      let can = ever (is_switched_on t fuses row) (has_whole_pair (row_fuses t fuses row)) parts.0 in
      elim (or_cases (not (is_on (row_fuses t fuses row) (2 * pair))) (not (is_on (row_fuses t fuses row) (2 * pair + 1))) (sym (row_connected t fuses row even fits long within pair low) ∙ parts.1)) [
        | inl lower ↦ record { positive = true; off = off_at _ lower; alone = can.1; switched = can.0 }
        | inr higher ↦ record { positive = false; off = off_at _ higher; alone = can.1; switched = can.0 }
      ]
    where
      ever : (on whole : Bool) → not (not on || whole) ≡ true → (on ≡ true) × (whole ≡ false)
      ever true true e = absurd (true≢false (sym e))
      ever true false e = (refl, refl)
      ever false whole e = absurd (true≢false (sym e))

  pub literal_below : (pair : ℕ) (positive : Bool) → pair < length t.pairs → column_of pair positive < t.columns
  literal_below pair positive low = column_below pair (length t.pairs) t.columns positive even low

  fuses_fit : length (row_fuses t fuses row) ≤ t.columns
  fuses_fit = omega (arith, length-take (t.columns * row + t.columns - t.columns * row) (drop (t.columns * row) fuses))

  values_long : (at : Levels) → length (pair_values t fuses at) ≡ length t.pairs
  values_long at = length-map t.pairs (carried t fuses at)

  module _ (pair : ℕ) (low : pair < length t.pairs) (lit : Literal t fuses row pair) (at next : Levels)
      (without : value_without t fuses at row (column_of pair lit.positive) ≡ true)
      (here : is_on (pair_values t fuses next) pair ≡ lit.positive)
      (others : (p : ℕ) → p < length t.pairs → p ≢ pair → is_on (pair_values t fuses next) p ≡ is_on (pair_values t fuses at) p) where
    -- both columns of the pair would be connected
    not_both : is_on (row_fuses t fuses row) (2 * pair) ≡ false → is_on (row_fuses t fuses row) (2 * pair + 1) ≡ false → ⊥
    not_both lower higher = true≢false (sym (row_whole t fuses row even fits long within pair low (rw (lower, higher) refl)) ∙ lit.alone)

    all_without : CarriesAll (set (row_fuses t fuses row) (column_of pair lit.positive) true) (columns_of (pair_values t fuses at))
    all_without = (row_is_true-columns (set (row_fuses t fuses row) (column_of pair lit.positive) true) (columns_of (pair_values t fuses at))).0 (and_parts (is_switched_on t fuses row) (row_is_true (set (row_fuses t fuses row) (column_of pair lit.positive) true) (columns_of (pair_values t fuses at))) without).1

    -- another pair's column carries what it carried
    carried_there : (k p : ℕ) → p < length t.pairs → (k ≡ 2 * p) ⊎ (k ≡ 2 * p + 1) → p ≢ pair → k < length (row_fuses t fuses row) → is_on (row_fuses t fuses row) k ≡ false → is_on (columns_of (pair_values t fuses at)) k ≡ true
    carried_there k p p_low place other fuse off =
        all_without k
        (subst (λ n. k < n) (sym (length-set (row_fuses t fuses row) (column_of pair lit.positive) true)) fuse)
        (below place)
        (get_or-set_other (row_fuses t fuses row) (column_of pair lit.positive) k true false (apart lit.positive place) ∙ off)
      where
        below : (k ≡ 2 * p) ⊎ (k ≡ 2 * p + 1) → k < length (columns_of (pair_values t fuses at))
        below (inl e) = omega (arith, e, p_low, length-columns (pair_values t fuses at), values_long at)
        below (inr e) = omega (arith, e, p_low, length-columns (pair_values t fuses at), values_long at)

        apart : (positive : Bool) → (k ≡ 2 * p) ⊎ (k ≡ 2 * p + 1) → k ≢ column_of pair positive
        apart true (inl e) = λ same. other (omega (arith, e, same))
        apart true (inr e) = λ same. absurd (omega (arith, e, same))
        apart false (inl e) = λ same. absurd (omega (arith, e, same))
        apart false (inr e) = λ same. other (omega (arith, e, same))

    column_true : (k p : ℕ) → p < length t.pairs → (k ≡ 2 * p) ⊎ (k ≡ 2 * p + 1) → k < length (row_fuses t fuses row) → is_on (row_fuses t fuses row) k ≡ false → is_on (columns_of (pair_values t fuses next)) k ≡ true
    column_true k p p_low place fuse off =
        elim (cases_eq p pair) [
          | inl same ↦ own lit.positive refl place same
          | inr other ↦ another place other
        ]
      where
        in_next : p < length (pair_values t fuses next)
        in_next = subst (λ n. p < n) (sym (values_long next)) p_low

        in_at : p < length (pair_values t fuses at)
        in_at = subst (λ n. p < n) (sym (values_long at)) p_low

        own : (positive : Bool) → lit.positive ≡ positive → (k ≡ 2 * p) ⊎ (k ≡ 2 * p + 1) → p ≡ pair → is_on (columns_of (pair_values t fuses next)) k ≡ true
        own true is (inl e) same = column_low (pair_values t fuses next) p k e in_next ∙ (ap (is_on (pair_values t fuses next)) same ∙ (here ∙ is))
        own false is (inr e) same = column_high (pair_values t fuses next) p k e in_next ∙ ap not (ap (is_on (pair_values t fuses next)) same ∙ (here ∙ is))
        own true is (inr e) same = absurd (not_both (subst (λ b. is_on (row_fuses t fuses row) (column_of pair b) ≡ false) is lit.off) (subst (λ j. is_on (row_fuses t fuses row) j ≡ false) (e ∙ ap (λ i. 2 * i + 1) same) off))
        own false is (inl e) same = absurd (not_both (subst (λ j. is_on (row_fuses t fuses row) j ≡ false) (e ∙ ap (λ i. 2 * i) same) off) (subst (λ b. is_on (row_fuses t fuses row) (column_of pair b) ≡ false) is lit.off))

        another : (k ≡ 2 * p) ⊎ (k ≡ 2 * p + 1) → p ≢ pair → is_on (columns_of (pair_values t fuses next)) k ≡ true
        another (inl e) other =
            column_low (pair_values t fuses next) p k e in_next
            ∙ (others p p_low other ∙ (sym (column_low (pair_values t fuses at) p k e in_at) ∙ carried_there k p p_low (inl e) other fuse off))
        another (inr e) other =
            column_high (pair_values t fuses next) p k e in_next
            ∙ (ap not (others p p_low other) ∙ (sym (column_high (pair_values t fuses at) p k e in_at) ∙ carried_there k p p_low (inr e) other fuse off))

    pub still_true : row_value t fuses next row ≡ true
    still_true =
        rw lit.switched
        ((row_is_true-columns (row_fuses t fuses row) (columns_of (pair_values t fuses next))).1 (λ k fuse column off.
        let found = pair_of k in
        column_true k found.pair (in_pairs k found.pair found.place fuse) found.place fuse off))
      where
        in_pairs : (k p : ℕ) → (k ≡ 2 * p) ⊎ (k ≡ 2 * p + 1) → k < length (row_fuses t fuses row) → p < length t.pairs
        in_pairs k p (inl e) fuse = omega (arith, e, fuse, fuses_fit, even)
        in_pairs k p (inr e) fuse = omega (arith, e, fuse, fuses_fit, even)
