-- Tests of lists and numbers that compute (private: for the laws of tables).
use Rattle.std.proofs.Common.{◌≡◌, ℕ, zero, suc, ◌<◌, Bool, true, ◌&&◌, not, List, [], ◌∷◌, length, get_or, arith, inl, inr}
use Rattle.std.specs.List.{list_all}
use Rattle.std.proofs.lemmas.Bool.{cases_eq, and_parts, both_ways, not-true}
use Rattle.std.proofs.lemmas.List.Sums.{AllPass-from_list_all}

-- a test passes at each number below n
abbrev pub all_below : ℕ → (ℕ → Bool) → Bool
all_below zero test = true
all_below (suc n) test = test n && all_below n test

-- no two of a list are alike by a test
abbrev pub apart : {X : Type 0} → (X → X → Bool) → List X → Bool
apart alike [] = true
apart alike (x ∷ xs) = list_all (λ y. not (alike x y)) xs && apart alike xs

pub at_below : (n : ℕ) (test : ℕ → Bool) → all_below n test ≡ true → (k : ℕ) → k < n → test k ≡ true
at_below zero test all k within = absurd (omega arith)
at_below (suc n) test all k within =
    let parts = and_parts (test n) (all_below n test) all in
    elim (cases_eq k n) [
      | inl same ↦ rw same parts.0
      | inr other ↦ at_below n test parts.1 k (omega arith)
    ]

pub get_all : {X : Type 0} (test : X → Bool) (xs : List X) (k : ℕ) (d : X) → list_all test xs ≡ true → k < length xs → test (get_or xs k d) ≡ true
get_all test xs k d all within = AllPass-from_list_all test xs all k d within

pub not_both : (b : Bool) → not b ≡ true → b ≡ true → ⊥
not_both b off on = both_ways b (not-true b off) on

pub apart_at : {X : Type 0} (alike : X → X → Bool) (xs : List X) → apart alike xs ≡ true → (i j : ℕ) (d : X) → i < j → j < length xs → alike (get_or xs i d) (get_or xs j d) ≡ true → ⊥
apart_at alike [] test i j d order within same = omega arith
apart_at alike (x ∷ xs) test zero zero d order within same = omega arith
apart_at alike (x ∷ xs) test zero (suc j) d order within same =
    not_both (alike x (get_or xs j d)) (get_all (λ y. not (alike x y)) xs j d ((and_parts (list_all (λ y. not (alike x y)) xs) (apart alike xs) test).0) (omega arith)) same
apart_at alike (x ∷ xs) test (suc i) zero d order within same = omega arith
apart_at alike (x ∷ xs) test (suc i) (suc j) d order within same =
    apart_at alike xs ((and_parts (list_all (λ y. not (alike x y)) xs) (apart alike xs) test).1) i j d (omega arith) (omega arith) same
