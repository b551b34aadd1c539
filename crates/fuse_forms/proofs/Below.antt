-- Tests of the numbers below another.
use Rattle.std.proofs.Common.{◌≡◌, ℕ, zero, suc, ◌<◌, Bool, true, false, ◌&&◌, ◌||◌, arith, inl, inr, refl}
use Rattle.std.proofs.lemmas.Bool.{cases_eq}
use Rattle.fuse_forms.specs.Warnings.{is_each_below, is_some_below}

pub each_where : (n : ℕ) (test : ℕ → Bool) → ((k : ℕ) → k < n → test k ≡ true) → is_each_below n test ≡ true
each_where zero test all = refl
each_where (suc n) test all = rw (all n (omega arith), each_where n test (λ k low. all k (omega arith))) refl

pub not_each_where : (n k : ℕ) (test : ℕ → Bool) → k < n → test k ≡ false → is_each_below n test ≡ false
not_each_where zero k test low is = absurd (omega arith)
not_each_where (suc n) k test low is =
    elim (cases_eq k n) [
      | inl same ↦ let here : test n ≡ false = rw (← same) is in rw here refl
      | inr other ↦ rw (not_each_where n k test (omega arith) is) (and_false (test n))
    ]
  where
    and_false : (b : Bool) → (b && false) ≡ false
    and_false true = refl
    and_false false = refl

pub some_where : (n k : ℕ) (test : ℕ → Bool) → k < n → test k ≡ true → is_some_below n test ≡ true
some_where zero k test low is = absurd (omega arith)
some_where (suc n) k test low is =
    elim (cases_eq k n) [
      | inl same ↦ let here : test n ≡ true = rw (← same) is in rw here refl
      | inr other ↦ rw (some_where n k test (omega arith) is) (or_true (test n))
    ]
  where
    or_true : (b : Bool) → (b || true) ≡ true
    or_true true = refl
    or_true false = refl

pub not_some_where : (n : ℕ) (test : ℕ → Bool) → ((k : ℕ) → k < n → test k ≡ false) → is_some_below n test ≡ false
not_some_where zero test none = refl
not_some_where (suc n) test none = rw (none n (omega arith), not_some_where n test (λ k low. none k (omega arith))) refl
