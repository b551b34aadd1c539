-- Covers over the columns under the mask of all registers are, turned, covers under the mask of the chosen forms.
use Rattle.std.proofs.Common.{◌≡◌, ℕ, zero, suc, ◌+◌, ◌%◌, ◌<◌, ◌≤◌, ◌^◌, not, ◌==◌, if◌then◌else◌, List, Option, None, Some, refl, ap, ◌∙◌, arith}
use Rattle.fitter.proofs.Common.{bit_at, bit_xor, option_map, option_to_list, length-map, xor_lt, bit_at-lt, bit_at_xor, Cube, Products, all_turned, turned, IsCoverBetween}
use Rattle.fit_plans.specs.TurnedCovers.{IsExchangedMask}
use Rattle.fit_plans.proofs.TurnedRows.{turned_again}

-- ---- the mask of both

by_bits : (a b : ℕ) → a < 2 → b < 2 → ((a + b) % 2 == 1) ≡ (if b == 1 then not (a == 1) else (a == 1))
by_bits zero zero a_low b_low = refl
by_bits zero (suc zero) a_low b_low = refl
by_bits (suc zero) zero a_low b_low = refl
by_bits (suc zero) (suc zero) a_low b_low = refl
by_bits (suc (suc a)) b a_low b_low = absurd (omega (arith, a_low))
by_bits a (suc (suc b)) a_low b_low = absurd (omega (arith, b_low))

pub both_masks : (vars mask other : ℕ) → IsExchangedMask vars mask other (bit_xor mask other)
both_masks vars mask other v low =
    ap (λ n. n == 1) (bit_at_xor mask other v) ∙ by_bits (bit_at mask v) (bit_at other v) (bit_at-lt mask v) (bit_at-lt other v)

-- ---- covers

pub turned_cover : (vars mask other : ℕ) (needed allowed : Products) (rows : List Cube) → vars ≤ 32 → mask < 2 ^ 32 → other < 2 ^ 32 → IsCoverBetween vars mask needed allowed rows
    → IsCoverBetween vars (bit_xor mask other) needed allowed (all_turned other rows)
turned_cover vars mask other needed allowed rows few low other_low cover = record {
  needs = cover.needs;
  allows = cover.allows;
  needs_is = cover.needs_is;
  allows_is = cover.allows_is;
  prime = turned_again mask other (bit_xor mask other) vars cover.needs cover.allows rows low other_low (xor_lt 32 mask other low other_low) few (both_masks vars mask other) cover.prime;
  few = let short = cover.few in omega (arith, short, length-map rows (turned other));
}

-- a row that there may be
pub one_turned : (mask : ℕ) (row : Option Cube) → all_turned mask (option_to_list row) ≡ option_to_list (option_map (turned mask) row)
one_turned mask None = refl
one_turned mask (Some c) = refl
