-- A turned cube has the turned points.
use Rattle.std.proofs.Common.{◌≡◌, ◌⊎◌, inl, inr, ℕ, suc, ◌+◌, ◌-◌, ◌^◌, ◌<◌, ◌≤◌, min, max, Bool, true, false, not, ◌&&◌, ◌||◌, eqb, if◌then◌else◌, List, [], ◌∷◌, length, refl, sym, ◌∙◌, ap, subst, arith, bit_and, bit_or, All}
use Rattle.fit_plans.proofs.Common.{bit_at, bit_not, w32, All-map, and_le_l, or_lt, bit_at-lt, bit_at_and, bit_at_or, bit_at_not, Cube, AllAskBelow, AsksBelow, covers, fits, has_from, all_turned, turned, TurnedPoints, levels_turned}

pub exchanged : (a b mask v : ℕ) → mask < 2 ^ 32 → v < 32
    → bit_at (bit_or (bit_and a (bit_not w32 mask)) (bit_and b mask)) v ≡ max (min (bit_at a v) (1 - bit_at mask v)) (min (bit_at b v) (bit_at mask v))
exchanged a b mask v low within =
    rw (bit_at_or (bit_and a (bit_not w32 mask)) (bit_and b mask) v, bit_at_and a (bit_not w32 mask) v, bit_at_and b mask v, bit_at_not w32 mask v low within) refl

pub taken : (a b m : ℕ) → a < 2 → b < 2 → m ≡ 1 → max (min a (1 - m)) (min b m) ≡ b
taken a b m a_low b_low on = omega (arith, a_low, b_low, on)

pub stays : (a b m : ℕ) → a < 2 → b < 2 → m ≡ 0 → max (min a (1 - m)) (min b m) ≡ a
stays a b m a_low b_low off = omega (arith, a_low, b_low, off)

pub one_or_zero : (m : ℕ) → m < 2 → (m ≡ 1) ⊎ (m ≡ 0)
one_or_zero m low = grind (arith, low)

-- a level that is turned fits what was asked of the other one
pub fits_turned : (a b : ℕ) (x : Bool) → fits b a x ≡ fits a b (not x)
fits_turned a b true = refl
fits_turned a b false = refl

fits_here : (mask v : ℕ) (c : Cube) (x : Bool) → mask < 2 ^ 32 → v < 32
    → fits (bit_at (turned mask c).yes v) (bit_at (turned mask c).no v) x ≡ fits (bit_at c.yes v) (bit_at c.no v) (if eqb (bit_at mask v) 1 then not x else x)
fits_here mask v c x low within =
    let yes_low = bit_at-lt c.yes v in
    let no_low = bit_at-lt c.no v in
    elim (one_or_zero (bit_at mask v) (bit_at-lt mask v)) [
      | inl on ↦
          let yes_is = exchanged c.yes c.no mask v low within ∙ taken (bit_at c.yes v) (bit_at c.no v) (bit_at mask v) yes_low no_low on in
          let no_is = exchanged c.no c.yes mask v low within ∙ taken (bit_at c.no v) (bit_at c.yes v) (bit_at mask v) no_low yes_low on in
          rw (yes_is, no_is, on) (fits_turned (bit_at c.yes v) (bit_at c.no v) x)
      | inr off ↦
          let yes_is = exchanged c.yes c.no mask v low within ∙ stays (bit_at c.yes v) (bit_at c.no v) (bit_at mask v) yes_low no_low off in
          let no_is = exchanged c.no c.yes mask v low within ∙ stays (bit_at c.no v) (bit_at c.yes v) (bit_at mask v) no_low yes_low off in
          rw (yes_is, no_is, off) refl
    ]

turned_from : (mask v : ℕ) (c : Cube) (pairs : List Bool) → mask < 2 ^ 32 → v + length pairs ≤ 32
    → has_from v (turned mask c) pairs ≡ has_from v c (levels_turned mask v pairs)
turned_from mask v c [] low few = refl
turned_from mask v c (x ∷ pairs) low few =
    rw (fits_here mask v c x low (omega (arith, few)), turned_from mask (suc v) c pairs low (omega (arith, few))) refl

pub turned_points : TurnedPoints
turned_points mask c pairs low few = turned_from mask 0 c pairs low (omega (arith, few))

pub covers_turned : (mask : ℕ) (cubes : List Cube) (pairs : List Bool) → mask < 2 ^ 32 → length pairs ≤ 32
    → covers (all_turned mask cubes) pairs ≡ covers cubes (levels_turned mask 0 pairs)
covers_turned mask [] pairs low few = refl
covers_turned mask (c ∷ cubes) pairs low few = rw (turned_points mask c pairs low few, covers_turned mask cubes pairs low few) refl

pub length_turned : (mask v : ℕ) (pairs : List Bool) → length (levels_turned mask v pairs) ≡ length pairs
length_turned mask v [] = refl
length_turned mask v (x ∷ pairs) = ap suc (length_turned mask (suc v) pairs)

turned_low : (vars a b m n : ℕ) → a < 2 ^ vars → b < 2 ^ vars → bit_or (bit_and a m) (bit_and b n) < 2 ^ vars
turned_low vars a b m n a_low b_low =
    or_lt vars (bit_and a m) (bit_and b n) (let le = and_le_l a m in omega (arith, le, a_low)) (let le = and_le_l b n in omega (arith, le, b_low))

pub turned_below : (vars mask : ℕ) (cubes : List Cube) → AllAskBelow vars cubes → AllAskBelow vars (all_turned mask cubes)
turned_below vars mask cubes below = All-map (AsksBelow vars) (turned mask) cubes (λ k d lt.
    let here = below k d lt in
    (turned_low vars _ _ (bit_not w32 mask) mask here.0 here.1, turned_low vars _ _ (bit_not w32 mask) mask here.1 here.0))
