-- That a row reads given values alone, by computation over its fuses.
use Rattle.std.proofs.Common.{◌≡◌, ℕ, zero, suc, ◌+◌, ◌<◌, ◌≤◌, Bool, true, false, not, ◌&&◌, ◌||◌, List, [], ◌∷◌, Some, slice_get, sym, subst, arith, inl, inr}
use Rattle.pld_device.proofs.Common.{list_all, range_with_len, cases_eq, and_parts, true≢false, is_on, Carry, Table, row_fuses, connected_pairs, is_never_true}
use Rattle.pld_device.specs.Given.{is_given, ReadsGiven}

-- a test that each number of a run passes
pub all_in_range : (test : ℕ → Bool) (from count n : ℕ) → list_all test (range_with_len from count) ≡ true → from ≤ n → n < from + count → test n ≡ true
all_in_range test from zero n all low high = absurd (omega arith)
all_in_range test from (suc count) n all low high =
    let parts = and_parts (test from) (list_all test (range_with_len (from + 1) count)) all in
    elim (cases_eq from n) [
      | inl here ↦ subst (λ k. test k ≡ true) here parts.0
      | inr other ↦ all_in_range test (from + 1) count n parts.1 (omega arith) (omega arith)
    ]

-- each connected pair carries a given value
abbrev pub given_where : Table → List Bool → List Bool → List Carry → Bool
given_where t fuses [] carries = true
given_where t fuses (connected ∷ rest) [] = true
given_where t fuses (connected ∷ rest) (carry ∷ carries) = (not connected || is_given t fuses carry) && given_where t fuses rest carries

-- the row is never true, or reads given values alone
abbrev pub row_test : Table → List Bool → ℕ → Bool
row_test t fuses row = is_never_true t fuses row || given_where t fuses (connected_pairs (row_fuses t fuses row)) t.pairs

implied : (a b : Bool) → (not a || b) ≡ true → a ≡ true → b ≡ true
implied true b either holds = either
implied false b either holds = absurd (true≢false (sym holds))

left_over : (a b : Bool) → (a || b) ≡ true → not a ≡ true → b ≡ true
left_over true b either holds = absurd (true≢false (sym holds))
left_over false b either holds = either

same_carry : (a b : Carry) → Some a ≡ Some b → a ≡ b
same_carry a b e = cc

given_at : (t : Table) (fuses connected : List Bool) (carries : List Carry) → given_where t fuses connected carries ≡ true → (pair : ℕ) (carry : Carry) → is_on connected pair ≡ true → slice_get carries pair ≡ Some carry → is_given t fuses carry ≡ true
given_at t fuses [] carries test pair carry on found = absurd (true≢false (sym on))
given_at t fuses (connected ∷ rest) [] test pair carry on found = absurd cc
given_at t fuses (connected ∷ rest) (other ∷ carries) test zero carry on found =
    subst (λ c. is_given t fuses c ≡ true) (same_carry other carry found)
    (implied connected (is_given t fuses other) ((and_parts (not connected || is_given t fuses other) (given_where t fuses rest carries) test).0) on)
given_at t fuses (connected ∷ rest) (other ∷ carries) test (suc pair) carry on found =
    given_at t fuses rest carries ((and_parts (not connected || is_given t fuses other) (given_where t fuses rest carries) test).1) pair carry on found

pub reads_given : (t : Table) (fuses : List Bool) (row : ℕ) → row_test t fuses row ≡ true → ReadsGiven t fuses row
reads_given t fuses row test pair carry reads found =
    let parts = and_parts (not (is_never_true t fuses row)) (is_on (connected_pairs (row_fuses t fuses row)) pair) reads in
    let given = left_over (is_never_true t fuses row) (given_where t fuses (connected_pairs (row_fuses t fuses row)) t.pairs) test parts.0 in
    given_at t fuses (connected_pairs (row_fuses t fuses row)) t.pairs given pair carry parts.1 found
