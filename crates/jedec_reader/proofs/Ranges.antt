-- Tests that all numbers from one on pass, or one of them fails.
use Rattle.std.proofs.Common.{◌≡◌, ℕ, zero, suc, ◌+◌, ◌<◌, Bool, true, false, inl, inr, refl, arith}
use Rattle.jedec_reader.proofs.Common.{list_all, range_with_len, cases_Bool, length-range_with_len, get_or-range_with_len}
use Rattle.std.proofs.lemmas.List.Folds.{list_all_at}

all_from : (test : ℕ → Bool) (first n : ℕ) → ((k : ℕ) → k < n → test (first + k) ≡ true) → list_all test (range_with_len first n) ≡ true
all_from test first zero each = refl
all_from test first (suc n) each =
    let head : test first ≡ true = rw (let e : first ≡ first + 0 = omega arith in e) (each 0 (omega arith)) in
    rw head (all_from test (first + 1) n (λ k low. rw (let e : first + 1 + k ≡ first + (k + 1) = omega arith in e) (each (k + 1) (omega arith))))

pub all_of_range : (test : ℕ → Bool) (n : ℕ) → ((k : ℕ) → k < n → test (k + 1) ≡ true) → list_all test (range_with_len 1 n) ≡ true
all_of_range test n each = all_from test 1 n (λ k low. rw (let e : 1 + k ≡ k + 1 = omega arith in e) (each k low))

pub not_all_of_range : (test : ℕ → Bool) (n k : ℕ) → k < n → test (k + 1) ≡ false → list_all test (range_with_len 1 n) ≡ false
not_all_of_range test n k low fails =
    list_all_at test (range_with_len 1 n) k 0 (rw (length-range_with_len 1 n) low) (rw (get_or-range_with_len 1 n k 0 low, let e : 1 + k ≡ k + 1 = omega arith in e) fails)

pub test_of_range : (test : ℕ → Bool) (n k : ℕ) → list_all test (range_with_len 1 n) ≡ true → k < n → test (k + 1) ≡ true
test_of_range test n k all low = elim (cases_Bool (test (k + 1))) [
  | inl passes ↦ passes
  | inr fails ↦ let no_all = not_all_of_range test n k low fails in absurd cc
]
