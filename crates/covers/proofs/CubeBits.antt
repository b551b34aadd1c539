-- What the tests on the bits of cubes say of each variable.
use Rattle.std.proofs.Common.{◌≡◌, ◌≢◌, ℕ, ◌-◌, ◌^◌, ◌<◌, min, Bool, true, false, ◌==◌, ◌⊎◌, eqb, inl, inr, if◌then◌else◌, sym, ap, ◌∙◌, arith, bit_and}
use Rattle.covers.proofs.Common.{bit_at, bit_not, w32, trailing_zeros, and_parts, and_cases, not-true, not-false, eqb-true, eqb-false, cases_lt, pow-lt, and_le_l, pow_pos, bit_at-lt, bit_at-zero, bit_at_and, bit_at_not, bit_at_above, bit_at-trailing_zeros, bit_at-pow_same, bit_at-pow_other, Cube, AsksBelow, is_empty, literal_cube, meets}

-- ---- one bit of a number

-- a number that isn't 0 has a bit
pub some_bit : (n : ℕ) → n < 2 ^ 32 → 0 < n → (v : ℕ) × (v < 32) × (bit_at n v ≡ 1)
some_bit n low some = let first = bit_at-trailing_zeros w32 n some low in (trailing_zeros w32 n, first.0, first.1)

-- a bit of a number below 2 ^ vars is below vars
pub bit_below : (n vars v : ℕ) → n < 2 ^ vars → bit_at n v ≡ 1 → v < vars
bit_below n vars v low one =
    elim (cases_lt v vars) [
      | inl lt ↦ lt
      | inr past ↦ absurd (let none = bit_at_above n vars v low past in omega (arith, none, one))
    ]

-- a bit that is taken away if the second number has it
pub bit_at_without : (n m v : ℕ) → m < 2 ^ 32 → v < 32 → bit_at (bit_and n (bit_not w32 m)) v ≡ min (bit_at n v) (1 - bit_at m v)
bit_at_without n m v low below = bit_at_and n (bit_not w32 m) v ∙ ap (λ b. min (bit_at n v) b) (bit_at_not w32 m v low below)

pub without_lt : (n m vars : ℕ) → n < 2 ^ vars → bit_and n m < 2 ^ vars
without_lt n m vars low = let le = and_le_l n m in omega (arith, le)

-- two numbers without a common bit
no_common : (a b : ℕ) → (bit_and a b == 0) ≡ true → (v : ℕ) → min (bit_at a v) (bit_at b v) ≡ 0
no_common a b none v =
    let e : bit_and a b ≡ 0 = eqb-true _ _ none in
    sym (bit_at_and a b v) ∙ ap (λ n. bit_at n v) e ∙ bit_at-zero v

-- two numbers with one
common : (a b : ℕ) → a < 2 ^ 32 → (bit_and a b == 0) ≡ false → (v : ℕ) × (v < 32) × (bit_at a v ≡ 1) × (bit_at b v ≡ 1)
common a b low some =
    let le = and_le_l a b in
    let ne : bit_and a b ≢ 0 = eqb-false _ _ some in
    let found = some_bit (bit_and a b) (omega (arith, le)) (omega (arith, ne)) in
    let e = bit_at_and a b found.0 in
    (found.0, found.1, omega (arith, e, found.2, bit_at-lt a found.0), omega (arith, e, found.2, bit_at-lt b found.0))

-- ---- cubes

-- cubes that meet ask no variable at opposite levels
pub meets_each : (c d : Cube) → meets c d ≡ true → (v : ℕ) → (min (bit_at c.yes v) (bit_at d.no v) ≡ 0) × (min (bit_at c.no v) (bit_at d.yes v) ≡ 0)
meets_each c d is v =
    let parts = and_parts (eqb (bit_and c.yes d.no) 0) (eqb (bit_and c.no d.yes) 0) is in
    (no_common c.yes d.no parts.0 v, no_common c.no d.yes parts.1 v)

-- a cube that is not empty asks each variable at one level at most
pub single_each : (c : Cube) → is_empty c ≡ false → (v : ℕ) → min (bit_at c.yes v) (bit_at c.no v) ≡ 0
single_each c is v = no_common c.yes c.no (not-false (eqb (bit_and c.yes c.no) 0) is) v

-- a variable that an empty cube asks at both levels
pub empty_at : (c : Cube) → c.yes < 2 ^ 32 → is_empty c ≡ true → (v : ℕ) × (v < 32) × (bit_at c.yes v ≡ 1) × (bit_at c.no v ≡ 1)
empty_at c low is = common c.yes c.no low (not-true (eqb (bit_and c.yes c.no) 0) is)

-- a variable that two cubes which don't meet ask at opposite levels
pub apart_at : (c d : Cube) → c.yes < 2 ^ 32 → c.no < 2 ^ 32 → meets c d ≡ false
    → (v : ℕ) × (v < 32) × (((bit_at c.yes v ≡ 1) × (bit_at d.no v ≡ 1)) ⊎ ((bit_at c.no v ≡ 1) × (bit_at d.yes v ≡ 1)))
apart_at c d low-yes low-no is =
    elim (and_cases (eqb (bit_and c.yes d.no) 0) (eqb (bit_and c.no d.yes) 0) is) [
      | inl some ↦ let found = common c.yes d.no low-yes some in (found.0, found.1, inl (found.2, found.3))
      | inr some ↦ let found = common c.no d.yes low-no some in (found.0, found.1, inr (found.2, found.3))
    ]

-- a literal's cube asks its variable at its level, and no other variable
pub literal_same : (v : ℕ) (level : Bool) → (bit_at (literal_cube v level).yes v ≡ (if level then 1 else 0)) × (bit_at (literal_cube v level).no v ≡ (if level then 0 else 1))
literal_same v true = (bit_at-pow_same v, bit_at-zero v)
literal_same v false = (bit_at-zero v, bit_at-pow_same v)

pub literal_other : (v w : ℕ) (level : Bool) → w ≢ v → (bit_at (literal_cube v level).yes w ≡ 0) × (bit_at (literal_cube v level).no w ≡ 0)
literal_other v w true ne = (bit_at-pow_other v w ne, bit_at-zero w)
literal_other v w false ne = (bit_at-zero w, bit_at-pow_other v w ne)

pub literal_below : (v vars : ℕ) (level : Bool) → v < vars → AsksBelow vars (literal_cube v level)
literal_below v vars true lt = (pow-lt lt, pow_pos vars)
literal_below v vars false lt = (pow_pos vars, pow-lt lt)
