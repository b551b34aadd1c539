-- A point's levels as a cube of their own, which the cubes that have the point meet.
use Rattle.std.proofs.Common.{◌≡◌, ℕ, ◌-◌, ◌^◌, ◌<◌, ◌≤◌, min, zero, suc, Bool, true, false, ◌==◌, List, [], ◌∷◌, length, refl, sym, ◌∙◌, subst, arith, inl, inr}
use Rattle.device_logic.proofs.Common.{bit_at, bit_not, w32, cases_Bool, false_from_ne_true, bits, is_on-bits, length-bits, Cube, AsksBelow, fits, has_point, meets, meets_each, apart, has_point_each}
use Rattle.std.proofs.lemmas.Nat.Bits.{bit_at-lt, bit_at_not}

-- a level is what its own bit and the complement ask
fits_own : (a b : ℕ) → a < 2 → b ≡ 1 - a → fits a b (a == 1) ≡ true
fits_own zero b low is = refl
fits_own (suc zero) b low is = rw is refl
fits_own (suc (suc a)) b low is = absurd (omega arith)

-- a level fits bits that ask none of its opposites
fits_met : (m n a b : ℕ) → a < 2 → b ≡ 1 - a → min b m ≡ 0 → min a n ≡ 0 → fits m n (a == 1) ≡ true
fits_met m n zero b low is first second = let none : m ≡ 0 = omega (arith, is, first) in rw none refl
fits_met m n (suc zero) b low is first second = let none : n ≡ 0 = omega (arith, second) in rw none refl
fits_met m n (suc (suc a)) b low is first second = absurd (omega arith)

module _ (n : ℕ) (low : n < 2 ^ 32) where
  complement_at : (v : ℕ) → v < 32 → bit_at (bit_not w32 n) v ≡ 1 - bit_at n v
  complement_at v below = bit_at_not w32 n v low below

  within : (v : ℕ) → v < length (bits 32 n) → v < 32
  within v below = subst (λ l. v < l) (length-bits 32 n) below

  -- the cube of these levels has the point of them
  has_own : has_point (record { yes = n; no = bit_not w32 n }) (bits 32 n) ≡ true
  has_own = has_point_each (record { yes = n; no = bit_not w32 n }) (bits 32 n) (λ v below.
      rw (is_on-bits 32 n v (within v below)) (fits_own (bit_at n v) (bit_at (bit_not w32 n) v) (bit_at-lt n v) (complement_at v (within v below))))

  own_below : AsksBelow (length (bits 32 n)) (record { yes = n; no = bit_not w32 n })
  own_below = subst (λ l. AsksBelow l (record { yes = n; no = bit_not w32 n })) (sym (length-bits 32 n)) (low, omega arith)

  few : length (bits 32 n) ≤ 32
  few = omega (arith, length-bits 32 n)

  module _ (c : Cube) where
    met_has : meets (record { yes = n; no = bit_not w32 n }) c ≡ true → has_point c (bits 32 n) ≡ true
    met_has met = has_point_each c (bits 32 n) (λ v below.
        let each = meets_each (record { yes = n; no = bit_not w32 n }) c met v in
        rw (is_on-bits 32 n v (within v below))
        (fits_met (bit_at c.yes v) (bit_at c.no v) (bit_at n v) (bit_at (bit_not w32 n) v) (bit_at-lt n v) (complement_at v (within v below)) each.1 each.0))

    -- a cube has the point of these levels at which it meets their own cube
    pub meets_own : meets (record { yes = n; no = bit_not w32 n }) c ≡ has_point c (bits 32 n)
    meets_own = elim (cases_Bool (meets (record { yes = n; no = bit_not w32 n }) c)) [
      | inl met ↦ met ∙ sym (met_has met)
      | inr never ↦
          never
          ∙ sym (false_from_ne_true (has_point c (bits 32 n)) (λ has. apart (record { yes = n; no = bit_not w32 n }) c (bits 32 n) few own_below never has_own has))
    ]

-- a cube that asks the first level to be both has none
pub never_has : (p : List Bool) → 0 < length p → has_point (record { yes = 1; no = 1 }) p ≡ false
never_has [] long = absurd (omega (arith, long))
never_has (true ∷ p) long = refl
never_has (false ∷ p) long = refl
