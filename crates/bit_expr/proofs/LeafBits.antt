-- The bits of one leaf, and of the leaves of two formulas.
use Rattle.std.proofs.Common.{◌≡◌, ◌≢◌, ℕ, ◌<◌, true, false, ◌||◌, ◌==◌, bit_or, max, zero, suc, length, set, refl, sym, ◌∙◌, subst, arith, ◌⊎◌, inl, inr, get_or-set_same, get_or-set_other, ne_eqb}
use Rattle.bit_expr.proofs.Common.{bit_at_or, bit_at-lt, bits, is_on, is_on-bits, is_on-zero, length-bits}
use Rattle.std.specs.Int.{bit_at}
use Rattle.std.proofs.lemmas.Bool.{cases_eq, eq-eqb}

-- the one bit that is set
pub one_bit : (width p k : ℕ) → p < width → k < width → is_on (set (bits width 0) p true) k ≡ (p == k)
one_bit width p k within below = by_cases (cases_eq p k)
  where
    long : p < length (bits width 0)
    long = subst (λ l. p < l) (sym (length-bits width 0)) within

    by_cases : (p ≡ k) ⊎ (p ≢ k) → is_on (set (bits width 0) p true) k ≡ (p == k)
    by_cases (inl same) = rw (← same) (get_or-set_same (bits width 0) p true false long ∙ sym (eq-eqb p p refl))
    by_cases (inr other) = get_or-set_other (bits width 0) p k true false (λ e. other (sym e)) ∙ is_on-zero width k below ∙ sym (ne_eqb p k other)

either_one : (a b : ℕ) → a < 2 → b < 2 → (max a b == 1) ≡ ((a == 1) || (b == 1))
either_one zero zero low high = refl
either_one zero (suc zero) low high = refl
either_one (suc zero) zero low high = refl
either_one (suc zero) (suc zero) low high = refl
either_one zero (suc (suc b)) low high = absurd (omega arith)
either_one (suc zero) (suc (suc b)) low high = absurd (omega arith)
either_one (suc (suc a)) b low high = absurd (omega arith)

-- the bits of either
pub is_on-or : (width a b k : ℕ) → k < width → is_on (bits width (bit_or a b)) k ≡ (is_on (bits width a) k || is_on (bits width b) k)
is_on-or width a b k within = rw (is_on-bits width (bit_or a b) k within, is_on-bits width a k within, is_on-bits width b k within, bit_at_or a b k) (either_one (bit_at a k) (bit_at b k) (bit_at-lt a k) (bit_at-lt b k))
