-- A point with the Qs of some cells complemented, by their bits.
use Rattle.std.proofs.Common.{◌≡◌, ℕ, zero, suc, ◌+◌, ◌%◌, ◌<◌, ◌==◌, refl, sym, ap, ◌∙◌, subst, arith}
use Rattle.source_machine.proofs.Common.{bits, is_on, is_on-bits, length-bits, same_levels, exchanged_qs, in_sense}
use Rattle.std.specs.Int.{bit_at}
use Rattle.std.specs.Int.Bits.{bit_xor}
use Rattle.std.proofs.lemmas.Nat.Bits.{bit_at-lt, bit_at_xor}
use Rattle.pld_machine.proofs.ExchangedPoints.{length_from, q_exchanged}

one_bit : (a b : ℕ) → a < 2 → b < 2 → ((a + b) % 2 == 1) ≡ in_sense (b == 1) (a == 1)
one_bit zero zero a_low b_low = refl
one_bit zero (suc zero) a_low b_low = refl
one_bit (suc zero) zero a_low b_low = refl
one_bit (suc zero) (suc zero) a_low b_low = refl
one_bit (suc (suc a)) b a_low b_low = absurd (omega (arith, a_low))
one_bit a (suc (suc b)) a_low b_low = absurd (omega (arith, b_low))

pub bits_exchanged : (q complemented : ℕ) → bits 32 (bit_xor q complemented) ≡ exchanged_qs (is_on (bits 32 complemented)) (bits 32 q)
bits_exchanged q complemented =
    same_levels (bits 32 (bit_xor q complemented)) (exchanged_qs (is_on (bits 32 complemented)) (bits 32 q))
    (length-bits 32 (bit_xor q complemented) ∙ sym (length_from (is_on (bits 32 complemented)) 0 (bits 32 q) ∙ length-bits 32 q))
    (λ k low. at k (subst (λ n. k < n) (length-bits 32 (bit_xor q complemented)) low))
  where
    at : (k : ℕ) → k < 32 → is_on (bits 32 (bit_xor q complemented)) k ≡ is_on (exchanged_qs (is_on (bits 32 complemented)) (bits 32 q)) k
    at k low =
        is_on-bits 32 (bit_xor q complemented) k low
        ∙ (ap (λ n. n == 1) (bit_at_xor q complemented k)
        ∙ (one_bit (bit_at q k) (bit_at complemented k) (bit_at-lt q k) (bit_at-lt complemented k)
        ∙ (sym (ap (λ b. in_sense b (bit_at q k == 1)) (is_on-bits 32 complemented k low))
        ∙ (sym (ap (in_sense (is_on (bits 32 complemented) k)) (is_on-bits 32 q k low))
        ∙ sym (q_exchanged (is_on (bits 32 complemented)) (bits 32 q) k (subst (λ n. k < n) (sym (length-bits 32 q)) low))))))
