-- A run of numbers, some or none of which pass a test.
use Rattle.std.proofs.Common.{◌≡◌, ℕ, zero, suc, ◌+◌, ◌<◌, ◌≤◌, Bool, true, false, refl, sym, subst, arith, inl, inr}
use Rattle.device_logic.proofs.Common.{list_any, range_with_len, cases_eq, or_cases, or_left, or_right, true≢false}

-- one that passes is enough
pub any_at : (test : ℕ → Bool) (first count k : ℕ) → first ≤ k → k < first + count → test k ≡ true → list_any test (range_with_len first count) ≡ true
any_at test first zero k low high on = absurd (omega arith)
any_at test first (suc count) k low high on =
    elim (cases_eq first k) [
      | inl here ↦ or_left (test first) (list_any test (range_with_len (first + 1) count)) (subst (λ i. test i ≡ true) (sym here) on)
      | inr other ↦ or_right (test first) (list_any test (range_with_len (first + 1) count)) (any_at test (first + 1) count k (omega arith) (omega arith) on)
    ]

-- if none passes
pub any_none : (test : ℕ → Bool) (first count : ℕ) → ((k : ℕ) → first ≤ k → k < first + count → test k ≡ false) → list_any test (range_with_len first count) ≡ false
any_none test first zero none = refl
any_none test first (suc count) none =
    rw (none first (omega arith) (omega arith), any_none test (first + 1) count (λ k low high. none k (omega (arith, low)) (omega (arith, high)))) refl

-- one of a run of numbers that passes
pub one_of : (test : ℕ → Bool) (first count : ℕ) → list_any test (range_with_len first count) ≡ true → (k : ℕ) × (first ≤ k) × (k < first + count) × (test k ≡ true)
one_of test first zero some = absurd (true≢false (sym some))
one_of test first (suc count) some =
    elim (or_cases (test first) (list_any test (range_with_len (first + 1) count)) some) [
      | inl here ↦ (first, omega arith, omega arith, here)
      | inr later ↦
          let found = one_of test (first + 1) count later in
          (found.0, omega (arith, found.1), omega (arith, found.2), found.3)
    ]

-- two tests that agree on the run
pub any_same : (f g : ℕ → Bool) (first count : ℕ) → ((row : ℕ) → first ≤ row → row < first + count → f row ≡ g row) → list_any f (range_with_len first count) ≡ list_any g (range_with_len first count)
any_same f g first zero same = refl
any_same f g first (suc count) same =
    rw (same first (omega arith) (omega arith), any_same f g (first + 1) count (λ row low high. same row (omega arith) (omega arith))) refl
