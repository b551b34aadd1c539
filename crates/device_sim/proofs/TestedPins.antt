-- What H and L find, as levels of words: driven with 1, driven with 0.
use Rattle.std.proofs.Common.{◌≡◌, ℕ, zero, suc, ◌-◌, ◌<◌, ◌^◌, ◌==◌, ◌&&◌, Bool, true, false, not, refl, arith}
use Rattle.device_sim.proofs.Common.{bit_at, bit_not, w32, bits, is_on, is_on-bits, found, is_tested}
use Rattle.std.proofs.lemmas.Nat.Bits.{bit_at-lt, bit_at_not}

pub high_is : (driven level : Bool) → not (driven && level) ≡ (is_tested 72 && not (72 == found driven level))
high_is true true = refl
high_is true false = refl
high_is false level = refl

pub low_is : (driven level : Bool) → not (driven && not level) ≡ (is_tested 76 && not (76 == found driven level))
low_is true true = refl
low_is true false = refl
low_is false level = refl

other_bit : (bit other : ℕ) → bit < 2 → other ≡ 1 - bit → (other == 1) ≡ not (bit == 1)
other_bit zero other low is = rw is refl
other_bit (suc zero) other low is = rw is refl
other_bit (suc (suc bit)) other low is = absurd (omega arith)

-- the complement of a word has the opposite levels
pub is_on-not : (n k : ℕ) → n < 2 ^ 32 → k < 32 → is_on (bits 32 (bit_not w32 n)) k ≡ not (is_on (bits 32 n) k)
is_on-not n k low within =
    rw (is_on-bits 32 (bit_not w32 n) k within, is_on-bits 32 n k within)
    (other_bit (bit_at n k) (bit_at (bit_not w32 n) k) (bit_at-lt n k) (bit_at_not w32 n k low within))
