-- Literals that are left out: a literal that could not be left out of a cube can not be left out of a larger one.
use Rattle.std.proofs.Common.{◌≡◌, ℕ, ◌-◌, ◌*◌, ◌%◌, ◌^◌, ◌<◌, ◌≤◌, min, Bool, true, false, inl, inr, List, sym, ◌∙◌, arith, bit_and, bit_or}
use Rattle.covers.proofs.Common.{bit_at, bit_not, w32, cases_eq, eqb-true, eq-eqb, and_le_l, bit_at-lt, bit_at-zero, bit_at_or, bit_at_clear_same, bit_at_clear_other, Cube, asks, literal_cube, without, AsksBelow, Grows, CoversCube, IsPrime}
use Rattle.covers.proofs.CubeBits.{bit_at_without, literal_same, literal_below, without_lt}
use Rattle.covers.proofs.CubePoints.{has_point_grows, lt_32, without_grows}

pub grows-refl : (vars : ℕ) (c : Cube) → Grows vars c c
grows-refl vars c = λ v lt. (omega arith, omega arith)

pub grows-trans : (vars : ℕ) (c d e : Cube) → Grows vars c d → Grows vars d e → Grows vars c e
grows-trans vars c d e f g = λ v lt. (omega (arith, f v lt, g v lt), omega (arith, f v lt, g v lt))

-- a cube lies if a larger one does
pub inside_grows : (allowed : List Cube) (vars : ℕ) (c d : Cube) → Grows vars c d → CoversCube allowed d vars → CoversCube allowed c vars
inside_grows allowed vars c d grows all = λ p len is. all p len (has_point_grows c d p (rw len grows) is)

-- ---- one literal less

pub larger_grows : (vars v : ℕ) (level : Bool) (c : Cube) → vars ≤ 32 → v < vars → Grows vars c (without (literal_cube v level) c)
larger_grows vars v level c few lt =
    let low = literal_below v vars level lt in
    without_grows (literal_cube v level) c vars few (lt_32 (literal_cube v level).yes vars low.0 few) (lt_32 (literal_cube v level).no vars low.1 few)

pub larger_below : (vars v : ℕ) (level : Bool) (c : Cube) → AsksBelow vars c → AsksBelow vars (without (literal_cube v level) c)
larger_below vars v level c below = (without_lt c.yes (bit_not w32 (literal_cube v level).yes) vars below.0, without_lt c.no (bit_not w32 (literal_cube v level).no) vars below.1)

-- the bits of a cube without a literal
less_bits : (vars v w : ℕ) (level : Bool) (c : Cube) → vars ≤ 32 → v < vars → w < vars
    → (bit_at (without (literal_cube v level) c).yes w ≡ min (bit_at c.yes w) (1 - bit_at (literal_cube v level).yes w))
    × (bit_at (without (literal_cube v level) c).no w ≡ min (bit_at c.no w) (1 - bit_at (literal_cube v level).no w))
less_bits vars v w level c few lt small =
    let low = literal_below v vars level lt in (
      bit_at_without c.yes (literal_cube v level).yes w (lt_32 (literal_cube v level).yes vars low.0 few) (omega arith),
      bit_at_without c.no (literal_cube v level).no w (lt_32 (literal_cube v level).no vars low.1 few) (omega arith),
    )

-- the literal is gone
pub literal_gone : (vars v : ℕ) (level : Bool) (c : Cube) → vars ≤ 32 → v < vars → asks v level (without (literal_cube v level) c) ≡ true → ⊥
literal_gone vars v true c few lt is =
    let b = less_bits vars v v true c few lt lt in
    let one = literal_same v true in
    let asked : bit_at (without (literal_cube v true) c).yes v ≡ 1 = eqb-true _ _ is in
    omega (arith, b.0, one.0, asked)
literal_gone vars v false c few lt is =
    let b = less_bits vars v v false c few lt lt in
    let one = literal_same v false in
    let asked : bit_at (without (literal_cube v false) c).no v ≡ 1 = eqb-true _ _ is in
    omega (arith, b.1, one.1, asked)

-- a literal that is left out of both keeps one larger than the other
less_grows : (vars v : ℕ) (level : Bool) (c d : Cube) → vars ≤ 32 → v < vars → Grows vars c d → Grows vars (without (literal_cube v level) c) (without (literal_cube v level) d)
less_grows vars v level c d few lt grows = λ w small.
    let a = less_bits vars v w level c few lt small in
    let b = less_bits vars v w level d few lt small in
    (omega (arith, a.0, b.0, grows w small), omega (arith, a.1, b.1, grows w small))

asks_grows : (vars v : ℕ) (level : Bool) (c d : Cube) → v < vars → Grows vars c d → asks v level d ≡ true → asks v level c ≡ true
asks_grows vars v true c d lt grows is = let one : bit_at d.yes v ≡ 1 = eqb-true _ _ is in eq-eqb (bit_at c.yes v) 1 (omega (arith, one, (grows v lt).0, bit_at-lt c.yes v))
asks_grows vars v false c d lt grows is = let one : bit_at d.no v ≡ 1 = eqb-true _ _ is in eq-eqb (bit_at c.no v) 1 (omega (arith, one, (grows v lt).1, bit_at-lt c.no v))

-- the literal can't be left out
abbrev pub IsTried : List Cube → ℕ → ℕ → Bool → Cube → Type 0
IsTried allowed vars v level c = asks v level c ≡ true → CoversCube allowed (without (literal_cube v level) c) vars → ⊥

pub tried_grows : (allowed : List Cube) (vars v : ℕ) (level : Bool) (c d : Cube) → vars ≤ 32 → v < vars → Grows vars c d → IsTried allowed vars v level c → IsTried allowed vars v level d
tried_grows allowed vars v level c d few lt grows tried = λ is all.
    tried (asks_grows vars v level c d lt grows is) (inside_grows allowed vars (without (literal_cube v level) c) (without (literal_cube v level) d) (less_grows vars v level c d few lt grows) all)

-- ---- the variables that are left

-- every literal of a variable that isn't left was tried
abbrev pub IsTriedPast : List Cube → ℕ → ℕ → Cube → Type 0
IsTriedPast allowed vars left c = (v : ℕ) (level : Bool) → v < vars → bit_at left v ≡ 0 → IsTried allowed vars v level c

asked_bit : (v : ℕ) (level : Bool) (c : Cube) → bit_at (bit_or c.yes c.no) v ≡ 0 → asks v level c ≡ true → ⊥
asked_bit v true c none is = let one : bit_at c.yes v ≡ 1 = eqb-true _ _ is in let e = bit_at_or c.yes c.no v in omega (arith, e, none, one)
asked_bit v false c none is = let one : bit_at c.no v ≡ 1 = eqb-true _ _ is in let e = bit_at_or c.yes c.no v in omega (arith, e, none, one)

-- at first those are left that the cube asks
pub tried_first : (allowed : List Cube) (vars : ℕ) (c : Cube) → IsTriedPast allowed vars (bit_or c.yes c.no) c
tried_first allowed vars c = λ v level lt none is all. asked_bit v level c none is

-- at last none
pub tried_last : (allowed : List Cube) (vars left : ℕ) (c : Cube) → left ≡ 0 → IsTriedPast allowed vars left c → IsPrime allowed vars c
tried_last allowed vars left c none tried = λ v level lt is all. tried v level lt (rw none (bit_at-zero v)) is all

-- one variable less
pub tried_more : (allowed : List Cube) (vars left less v : ℕ) (c d e : Cube) → vars ≤ 32 → v < vars → Grows vars c d → Grows vars d e
    → less ≡ bit_and left (bit_not w32 (1 * 2 ^ v % 2 ^ 32))
    → IsTriedPast allowed vars left c → IsTried allowed vars v true d → IsTried allowed vars v false e → IsTriedPast allowed vars less e
tried_more allowed vars left less v c d e few lt f g is past high low w level small none =
    elim (cases_eq w v) [
      | inl same ↦ rw same (elim level as (λ b. IsTried allowed vars v b e) [
        | true ↦ tried_grows allowed vars v true d e few lt g high
        | false ↦ low
      ])
      | inr other ↦
          let kept = bit_at_clear_other w32 left v (omega arith) w (omega arith) other in
          let gone = rw is at none in
          tried_grows allowed vars w level c e few small (grows-trans vars c d e f g) (past w level small (sym kept ∙ gone))
    ]

-- so the loop ends
pub left_less : (left less v : ℕ) → v < 32 → bit_at left v ≡ 1 → less ≡ bit_and left (bit_not w32 (1 * 2 ^ v % 2 ^ 32)) → less < left
left_less left less v small one is =
    let le : less ≤ left = rw is (and_le_l left (bit_not w32 (1 * 2 ^ v % 2 ^ 32))) in
    let gone : bit_at less v ≡ 0 = rw is (bit_at_clear_same w32 left v small) in
    elim (cases_eq less left) [
      | inl same ↦ absurd (let here = rw same at gone in omega (arith, here, one))
      | inr other ↦ omega (arith, le, other)
    ]

pub left_low : (left vars mask : ℕ) → left < 2 ^ vars → bit_and left mask < 2 ^ vars
left_low left vars mask low = without_lt left mask vars low
