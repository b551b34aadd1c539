-- Two words as one: a test of both at once.
use Rattle.std.proofs.Common.{◌≡◌, ℕ, ◌+◌, ◌*◌, ◌^◌, ◌<◌, zero, suc, ◌==◌, ◌&&◌, false, refl, ap, sym, ◌∙◌, arith, bit_and}
use Rattle.device_logic.proofs.Common.{bit_not, w32, eqb-true, false_from_ne_true, and_block, and_comm, Cube, meets}

above_zero : (n : ℕ) → 0 < n → (n == 0) ≡ false
above_zero n some = false_from_ne_true (n == 0) (λ is. absurd (let e = eqb-true n 0 is in omega (arith, e, some)))

-- both halves are 0
halves_zero : (upper lower : ℕ) → (upper * 2 ^ 32 + lower == 0) ≡ (upper == 0 && lower == 0)
halves_zero zero lower = ap (λ n. n == 0) (omega arith)
halves_zero (suc upper) lower =
    above_zero (suc upper * 2 ^ 32 + lower) (omega arith) ∙ sym (ap (λ b. b && lower == 0) (above_zero (suc upper) (omega arith)))

-- a cube asks nothing that these levels lack if it meets their own cube
pub joined_meets : (c : Cube) (levels none : ℕ) → c.yes < 2 ^ 32 → none < 2 ^ 32
    → (bit_and (c.no * 2 ^ 32 + c.yes) (levels * 2 ^ 32 + none) == 0) ≡ meets (record { yes = levels; no = none }) c
joined_meets c levels none low-yes low-none =
    ap (λ n. n == 0) (and_block 32 c.no levels c.yes none low-yes low-none)
    ∙ (halves_zero (bit_and c.no levels) (bit_and c.yes none)
    ∙ rw (and_comm c.no levels, and_comm c.yes none) refl)
