-- What was read precedes what follows it.
use Rattle.std.proofs.Common.{◌++◌, ◌≡◌, ◌<◌, ◌≤◌, ◌-◌, ℕ, List, Option, Some, None, Bool, length, take, drop, ap, arith, length-drop, length-take, refl, option_map}
use Rattle.abel_macros.proofs.Common.{lt-ltb, before, behind_some, given}

pub before_drop : (w : List ℕ) (n : ℕ) → n ≤ length w → before w (drop n w) ≡ take n w
before_drop w n h = let e : length w - length (drop n w) ≡ n = omega (arith, length-drop n w) in ap (λ (m : ℕ). take m w) e

pub some_read : (w : List ℕ) (n : ℕ) → 0 < n → behind_some n w ≡ Some (drop n w)
some_read w n h = ap (λ (b : Bool). given b (drop n w)) (lt-ltb 0 n h)

pub none_read : (w : List ℕ) → behind_some 0 w ≡ None
none_read w = refl

-- texts before those that a reading gives
abbrev pub behind_all : List (List ℕ) → Option (List (List ℕ) × List ℕ) → Option (List (List ℕ) × List ℕ)
behind_all front o = option_map (λ r. (front ++ r.0, r.1)) o

-- a part isn't longer than what it is of
pub part_fits : (v w : List ℕ) (n m : ℕ) → v ≡ take n w → length w < m → length v < m
part_fits v w n m e h = omega (arith, ap length e, length-take n w)
