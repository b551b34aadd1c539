-- Rows that are gathered pair by pair.
use Rattle.std.proofs.Common.{◌≡◌, ◌⊎◌, ℕ, ◌+◌, ◌*◌, ◌<◌, Bool, true, false, not, ◌&&◌, ◌||◌, List, [], ◌∷◌, ◌++◌, map, length, get_or, Some, slice_get, zero, suc, refl, ap, sym, ◌∙◌, subst, arith, inl, inr, below_more, length-append}
use Rattle.device_logic.proofs.Common.{cases_Bool, cases_lt, and_parts, true≢false, get_or_append_left, is_on, same_level, Levels, IsPoint, Carry, IsDevice, carried, columns_of, pair_values, row_fuses, row_is_true, row_value, Table, is_live, passes, HoldsWith, holds, RowMask}
use Rattle.std.proofs.Math.Seq.{get_or-append_seam}
use Rattle.device_logic.proofs.LiveRows.{live_value}
use Rattle.device_logic.proofs.PairWalks.{row_passes, row_fails}

-- what a pair carries is among the values
pub value_at : (f : Carry → Bool) (carries : List Carry) (pair : ℕ) (x : Carry) → slice_get carries pair ≡ Some x → is_on (map f carries) pair ≡ f x
value_at f [] pair x found = absurd cc
value_at f (y ∷ carries) zero x found = ap f (same y x found)
  where
    same : (a b : Carry) → Some a ≡ Some b → a ≡ b
    same a b e = cc
value_at f (y ∷ carries) (suc pair) x found = value_at f carries pair x found

-- both columns of a pair
both_columns : (l m r : RowMask) (lower higher : Bool) (value : Levels → Bool)
    → HoldsWith l m (λ at. lower || same_level true (value at)) → HoldsWith m r (λ at. higher || same_level false (value at))
    → HoldsWith l r (λ at. (lower || value at) && (higher || not (value at)))
both_columns l m r lower higher value first second = λ at is.
    second at is ∙ (ap (λ h. h && (higher || not (value at))) (first at is) ∙ grouped (holds l at) (lower || value at) (higher || not (value at)))
  where
    grouped : (a b c : Bool) → ((a && b) && c) ≡ (a && (b && c))
    grouped true b c = refl
    grouped false b c = refl

-- the connected columns of a pair
pub pair_passes : (t : Table) (fuses given : List Bool) (row pair : ℕ) (x : Carry) → given ≡ fuses → slice_get t.pairs pair ≡ Some x → (lower higher : Bool)
    → lower ≡ is_on (row_fuses t fuses row) (2 * pair) → higher ≡ is_on (row_fuses t fuses row) (2 * pair + 1) → (l m r : RowMask)
    → HoldsWith l m (λ at. lower || same_level true (carried t given at x)) → HoldsWith m r (λ at. higher || same_level false (carried t given at x))
    → HoldsWith l r (λ at. passes (row_fuses t fuses row) (pair_values t fuses at) pair)
pair_passes t fuses given row pair x same found lower higher lower_is higher_is l m r first second = λ at is.
    let e : carried t given at x ≡ is_on (pair_values t fuses at) pair = ap (λ fs. carried t fs at x) same ∙ sym (value_at (carried t fuses at) t.pairs pair x found) in
    both_columns l m r lower higher (λ at. carried t given at x) first second at is ∙ rw (lower_is, higher_is, e) refl

-- the test passes exactly if each pair so far does
pub record PassesBelow (t : Table) (fuses : List Bool) (row pairs : ℕ) (test : Levels → Bool) : Type 0 where
  pub from : (at : Levels) → IsPoint at → test at ≡ true → (p : ℕ) → p < pairs → passes (row_fuses t fuses row) (pair_values t fuses at) p ≡ true
  pub to : (at : Levels) → IsPoint at → ((p : ℕ) → p < pairs → passes (row_fuses t fuses row) (pair_values t fuses at) p ≡ true) → test at ≡ true

pub passes_more : (t : Table) (fuses : List Bool) (row pair : ℕ) (test next : Levels → Bool) → PassesBelow t fuses row pair test
    → ((at : Levels) → IsPoint at → next at ≡ (test at && passes (row_fuses t fuses row) (pair_values t fuses at) pair)) → PassesBelow t fuses row (pair + 1) next
passes_more t fuses row pair test next below more = record {
  from = λ at is passes_there.
      let parts = and_parts (test at) (passes (row_fuses t fuses row) (pair_values t fuses at) pair) (sym (more at is) ∙ passes_there) in
      below_more (λ p. passes (row_fuses t fuses row) (pair_values t fuses at) p ≡ true) pair (below.from at is parts.0) parts.1;
  to = λ at is all.
      more at is ∙ rw (below.to at is (λ p low. all p (omega (arith, low))), all pair (omega arith)) refl;
}

module _ (t : Table) (laws : IsDevice t) (fuses : List Bool) (row : ℕ) (long : length fuses ≡ t.fuses) (within : row < t.rows)
    (test : Levels → Bool) (below : PassesBelow t fuses row (length t.pairs) test) where
  passes_columns : (at : Levels) → IsPoint at → test at ≡ row_is_true (row_fuses t fuses row) (columns_of (pair_values t fuses at))
  passes_columns at is = by_value (cases_Bool (test at))
    where
      passes_each : row_is_true (row_fuses t fuses row) (columns_of (pair_values t fuses at)) ≡ true → (p : ℕ) → p < length t.pairs → passes (row_fuses t fuses row) (pair_values t fuses at) p ≡ true
      passes_each is_true p low = elim (cases_Bool (passes (row_fuses t fuses row) (pair_values t fuses at) p)) [
        | inl on ↦ on
        | inr off ↦ absurd (true≢false (sym is_true ∙ row_fails t fuses row laws.sizes.columns_even laws.sizes.array_fits long within at p low off))
      ]

      not_true : test at ≡ false → row_is_true (row_fuses t fuses row) (columns_of (pair_values t fuses at)) ≡ false
      not_true never = elim (cases_Bool (row_is_true (row_fuses t fuses row) (columns_of (pair_values t fuses at)))) [
        | inl on ↦ absurd (true≢false (sym (below.to at is (passes_each on)) ∙ never))
        | inr off ↦ off
      ]

      by_value : (test at ≡ true) ⊎ (test at ≡ false) → test at ≡ row_is_true (row_fuses t fuses row) (columns_of (pair_values t fuses at))
      by_value (inl on) = on ∙ sym (row_passes t fuses row laws.sizes.columns_even laws.sizes.array_fits long within at (below.from at is on))
      by_value (inr never) = never ∙ sym (not_true never)

  -- if all pairs pass, a row that can be true is so
  pub passes_row : is_live t fuses row ≡ true → (at : Levels) → IsPoint at → test at ≡ row_value t fuses at row
  passes_row live at is = passes_columns at is ∙ sym (live_value t fuses row at live)

-- a list that has for each row so far what is one of it
pub record EachBelow {X : Type 0} (IsOf : ℕ → X → Type 0) (rows : ℕ) (xs : List X) : Type 0 where
  pub size : length xs ≡ rows
  pub each : (row : ℕ) (d : X) → row < rows → IsOf row (get_or xs row d)

pub each_more : {X : Type 0} (IsOf : ℕ → X → Type 0) (rows : ℕ) (xs : List X) (x : X) → EachBelow IsOf rows xs → IsOf rows x → EachBelow IsOf (rows + 1) (xs ++ x ∷ [])
each_more IsOf rows xs x below here = record {
  size = omega (arith, below.size, length-append xs (x ∷ []));
  each = λ row d low. elim (cases_lt row rows) [
    | inl earlier ↦ rw (get_or_append_left xs (x ∷ []) d row (omega (arith, below.size, earlier))) (below.each row d earlier)
    | inr last ↦
        let same : row ≡ length xs = omega (arith, low, last, below.size) in
        rw (same, get_or-append_seam xs x [] d) (subst (λ n. IsOf n x) (sym below.size) here)
  ];
}
