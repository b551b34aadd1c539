-- The bits of a union.
use Rattle.std.proofs.Common.{◌≡◌, ℕ, zero, suc, ◌<◌, ◌==◌, ◌||◌, max, refl, arith}
use Rattle.placer.proofs.Common.{bit_or, bits, is_on, is_on-bits}
use Rattle.std.specs.Int.{bit_at}
use Rattle.std.proofs.lemmas.Nat.Bits.{bit_at_or, bit_at-lt}

one_of_both : (a b : ℕ) → a < 2 → b < 2 → (max a b == 1) ≡ ((a == 1) || (b == 1))
one_of_both zero zero low high = refl
one_of_both zero (suc zero) low high = refl
one_of_both zero (suc (suc b)) low high = absurd (omega arith)
one_of_both (suc zero) zero low high = refl
one_of_both (suc zero) (suc zero) low high = refl
one_of_both (suc zero) (suc (suc b)) low high = absurd (omega arith)
one_of_both (suc (suc a)) b low high = absurd (omega arith)

pub is_on-or : (width a b k : ℕ) → k < width → is_on (bits width (bit_or a b)) k ≡ (is_on (bits width a) k || is_on (bits width b) k)
is_on-or width a b k within = rw (is_on-bits width (bit_or a b) k within, is_on-bits width a k within, is_on-bits width b k within, bit_at_or a b k) (one_of_both (bit_at a k) (bit_at b k) (bit_at-lt a k) (bit_at-lt b k))
