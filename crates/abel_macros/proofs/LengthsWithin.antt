-- How long a text in pieces is.
use Rattle.std.proofs.Common.{◌≡◌, ◌+◌, ◌-◌, ◌<◌, ◌≤◌, ℕ, List, length, take, get_or, ap, arith, length-append}
use Rattle.abel_macros.proofs.Common.{joined}
use Rattle.abel_macros.proofs.Calls.{taken_more, all_taken}

pub length_next : (ps : List (List ℕ)) (i : ℕ) (d : List ℕ) (left most : ℕ) → i < length ps → length (get_or ps i d) ≤ left → length (joined (take i ps)) + left ≡ most
    → length (joined (take (i + 1) ps)) + (left - length (get_or ps i d)) ≡ most
length_next ps i d left most h l e = omega (arith, e, l, ap length (taken_more ps i d h), length-append (joined (take i ps)) (get_or ps i d))

pub length_all : (ps : List (List ℕ)) (i left most : ℕ) → length ps ≤ i → length (joined (take i ps)) + left ≡ most → length (joined ps) ≡ most - left
length_all ps i left most h e = omega (arith, e, ap (λ (qs : List (List ℕ)). length (joined qs)) (all_taken ps i h))
