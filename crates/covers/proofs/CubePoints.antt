-- What the tests on the bits of cubes say of points.
use Rattle.std.proofs.Common.{◌≡◌, ℕ, zero, suc, ◌+◌, ◌-◌, ◌^◌, ◌<◌, ◌≤◌, min, max, Bool, true, false, ◌&&◌, eqb, inl, inr, if◌then◌else◌, List, [], ◌∷◌, length, refl, sym, ap, ◌∙◌, arith, bit_and}
use Rattle.covers.proofs.Common.{bit_at, pow_mono, and_parts, and_from, cases_Bool, cases_eq, eqb-true, false≢true, true_from_ne_false, false_from_ne_true, nat_tests, bit_at-lt, bit_at-zero, bit_at_and, bit_at_or, is_on, same_level, Cube, Grows, fits, has_from, has_point, full_cube, is_empty, lies_in, literal_cube, meets, union, without, AsksBelow}
use Rattle.covers.proofs.CubeBits.{bit_below, bit_at_without, literal_same, literal_other, meets_each, empty_at, apart_at}

-- ---- a point of a cube, variable by variable

fits_from : (w n v : ℕ) (c : Cube) (p : List Bool) → v ≡ w + n → n < length p → has_from w c p ≡ true → fits (bit_at c.yes v) (bit_at c.no v) (is_on p n) ≡ true
fits_from w n v c [] at lt is = absurd (omega arith)
fits_from w zero v c (x ∷ p) at lt is = let same : v ≡ w = omega arith in rw same (and_parts (fits (bit_at c.yes w) (bit_at c.no w) x) (has_from (suc w) c p) is).0
fits_from w (suc n) v c (x ∷ p) at lt is = fits_from (suc w) n v c p (omega arith) (omega arith) (and_parts (fits (bit_at c.yes w) (bit_at c.no w) x) (has_from (suc w) c p) is).1

-- a point of the cube has at each variable a level that the cube asks
pub fits_at : (c : Cube) (p : List Bool) (v : ℕ) → has_point c p ≡ true → v < length p → fits (bit_at c.yes v) (bit_at c.no v) (is_on p v) ≡ true
fits_at c p v is lt = fits_from 0 v v c p (omega arith) lt is

each_from : (w : ℕ) (c : Cube) (p : List Bool) → ((n v : ℕ) → v ≡ w + n → n < length p → fits (bit_at c.yes v) (bit_at c.no v) (is_on p n) ≡ true) → has_from w c p ≡ true
each_from w c [] each = refl
each_from w c (x ∷ p) each =
    and_from (fits (bit_at c.yes w) (bit_at c.no w) x) (has_from (suc w) c p) (each 0 w (omega arith) (omega arith))
    (each_from (suc w) c p (λ n v at lt. each (suc n) v (omega arith) (omega arith)))

-- and a point that does is one of the cube
pub has_point_each : (c : Cube) (p : List Bool) → ((v : ℕ) → v < length p → fits (bit_at c.yes v) (bit_at c.no v) (is_on p v) ≡ true) → has_point c p ≡ true
has_point_each c p each = each_from 0 c p (λ n v at lt. let same : v ≡ n = omega arith in rw same (each n lt))

-- a cube that asks less at a variable takes the level too
pub fits-le : (a b m n : ℕ) (x : Bool) → a ≤ m → b ≤ n → fits m n x ≡ true → fits a b x ≡ true
fits-le a b m n true one none is = grind (arith, nat_tests)
fits-le a b m n false one none is = grind (arith, nat_tests)

-- ---- the cube that asks nothing

fits_none : (x : Bool) → fits 0 0 x ≡ true
fits_none true = refl
fits_none false = refl

pub full_has_all : (p : List Bool) → has_point full_cube p ≡ true
full_has_all p = has_point_each full_cube p (λ v lt. rw bit_at-zero (fits_none (is_on p v)))

-- ---- fewer literals

pub has_point_grows : (c d : Cube) (p : List Bool) → Grows (length p) c d → has_point c p ≡ true → has_point d p ≡ true
has_point_grows c d p grows is = has_point_each d p (λ v lt. fits-le (bit_at d.yes v) (bit_at d.no v) (bit_at c.yes v) (bit_at c.no v) (is_on p v) (grows v lt).0 (grows v lt).1 (fits_at c p v is lt))

-- ---- cubes that meet

pub lt_32 : (n vars : ℕ) → n < 2 ^ vars → vars ≤ 32 → n < 2 ^ 32
lt_32 n vars low few = let le = pow_mono {i = vars} {j = 32} few in omega (arith, le)

-- a level that is asked is the point's
asked_one : (a b : ℕ) (x : Bool) → a ≡ 1 → fits a b x ≡ true → x ≡ true
asked_one a b true one is = refl
asked_one a b false one is = absurd (grind (arith, nat_tests))

asked_zero : (a b : ℕ) (x : Bool) → b ≡ 1 → fits a b x ≡ true → x ≡ false
asked_zero a b false one is = refl
asked_zero a b true one is = absurd (grind (arith, nat_tests))

pub point_one : (c : Cube) (p : List Bool) (v : ℕ) → v < length p → bit_at c.yes v ≡ 1 → has_point c p ≡ true → is_on p v ≡ true
point_one c p v lt one is = asked_one (bit_at c.yes v) (bit_at c.no v) (is_on p v) one (fits_at c p v is lt)

pub point_zero : (c : Cube) (p : List Bool) (v : ℕ) → v < length p → bit_at c.no v ≡ 1 → has_point c p ≡ true → is_on p v ≡ false
point_zero c p v lt one is = asked_zero (bit_at c.yes v) (bit_at c.no v) (is_on p v) one (fits_at c p v is lt)

-- two cubes that ask a variable at opposite levels have no point in common
pub no_point : (c d : Cube) (p : List Bool) (v : ℕ) → v < length p → bit_at c.yes v ≡ 1 → bit_at d.no v ≡ 1 → has_point c p ≡ true → has_point d p ≡ true → ⊥
no_point c d p v lt one none first second = false≢true (sym (point_zero d p v lt none second) ∙ point_one c p v lt one first)

-- an empty cube has no point
pub empty_has_none : (c : Cube) (p : List Bool) → length p ≤ 32 → AsksBelow (length p) c → is_empty c ≡ true → has_point c p ≡ true → ⊥
empty_has_none c p few below empty is =
    let found = empty_at c (lt_32 c.yes (length p) below.0 few) empty in
    no_point c c p found.0 (bit_below c.yes (length p) found.0 below.0 found.2) found.2 found.3 is is

-- cubes that don't meet have no point in common
pub apart : (c d : Cube) (p : List Bool) → length p ≤ 32 → AsksBelow (length p) c → meets c d ≡ false → has_point c p ≡ true → has_point d p ≡ true → ⊥
apart c d p few below never first second =
    let found = apart_at c d (lt_32 c.yes (length p) below.0 few) (lt_32 c.no (length p) below.1 few) never in
    elim found.2 [
      | inl one ↦ no_point c d p found.0 (bit_below c.yes (length p) found.0 below.0 one.0) one.0 one.1 first second
      | inr none ↦ no_point d c p found.0 (bit_below c.no (length p) found.0 below.1 none.0) none.1 none.0 second first
    ]

-- ---- a cube without the literals of another

pub without_grows : (c d : Cube) (vars : ℕ) → vars ≤ 32 → c.yes < 2 ^ 32 → c.no < 2 ^ 32 → Grows vars d (without c d)
without_grows c d vars few low-yes low-no = λ v lt.
    let a = bit_at_without d.yes c.yes v low-yes (omega arith) in
    let b = bit_at_without d.no c.no v low-no (omega arith) in
    (omega (arith, a), omega (arith, b))

-- the point has what the other cube asks, so what is left decides
fits_rest : (a b m n : ℕ) (x : Bool) → a < 2 → b < 2 → m < 2 → n < 2 → fits a b x ≡ true → fits (min m (1 - a)) (min n (1 - b)) x ≡ true → min a n ≡ 0 → min b m ≡ 0 → fits m n x ≡ true
fits_rest a b m n true la lb lm ln one rest e f = grind (arith, nat_tests)
fits_rest a b m n false la lb lm ln one rest e f = grind (arith, nat_tests)

pub without_back : (c d : Cube) (p : List Bool) → length p ≤ 32 → c.yes < 2 ^ 32 → c.no < 2 ^ 32 → meets c d ≡ true → has_point c p ≡ true → has_point (without c d) p ≡ true → has_point d p ≡ true
without_back c d p few low-yes low-no meet first rest = has_point_each d p (λ v lt.
    let left = fits_at (without c d) p v rest lt in
    let a = bit_at_without d.yes c.yes v low-yes (omega arith) in
    let b = bit_at_without d.no c.no v low-no (omega arith) in
    let apart-bits = meets_each c d meet v in
    fits_rest (bit_at c.yes v) (bit_at c.no v) (bit_at d.yes v) (bit_at d.no v) (is_on p v)
    (bit_at-lt c.yes v) (bit_at-lt c.no v) (bit_at-lt d.yes v) (bit_at-lt d.no v)
    (fits_at c p v first lt) (rw (a, b) at left) apart-bits.0 apart-bits.1)

-- at a point of the first, the second is what meets it and what it asks besides
pub cofactor_point : (c d : Cube) (p : List Bool) → length p ≤ 32 → AsksBelow (length p) c → has_point c p ≡ true → has_point d p ≡ (meets c d && has_point (without c d) p)
cofactor_point c d p few below first =
    let low-yes = lt_32 c.yes (length p) below.0 few in
    let low-no = lt_32 c.no (length p) below.1 few in
    elim (cases_Bool (has_point d p)) [
      | inl here ↦
          let meet = true_from_ne_false (meets c d) (λ never. apart c d p few below never first here) in
          let rest = has_point_grows d (without c d) p (without_grows c d (length p) few low-yes low-no) here in
          rw (here, meet, rest) refl
      | inr gone ↦ gone ∙ sym (false_from_ne_true (meets c d && has_point (without c d) p) (λ is.
          let parts = and_parts (meets c d) (has_point (without c d) p) is in
          false≢true (sym gone ∙ without_back c d p few low-yes low-no parts.0 first parts.1)))
    ]

-- ---- the cube of one literal

own_level : (level : Bool) (a b : ℕ) → a ≡ (if level then 1 else 0) → b ≡ (if level then 0 else 1) → fits a b level ≡ true
own_level true a b e f = rw f refl
own_level false a b e f = rw e refl

-- it has the points with that level
pub literal_has : (v : ℕ) (level : Bool) (p : List Bool) → is_on p v ≡ level → has_point (literal_cube v level) p ≡ true
literal_has v level p is = has_point_each (literal_cube v level) p (λ w lt.
    elim (cases_eq w v) [
      | inl same ↦ let own = literal_same v level in rw (same, is) (own_level level (bit_at (literal_cube v level).yes v) (bit_at (literal_cube v level).no v) own.0 own.1)
      | inr other ↦ let none = literal_other v w level other in rw (none.0, none.1) (fits_none (is_on p w))
    ])

-- and no other
pub literal_point : (v : ℕ) (level : Bool) (p : List Bool) → v < length p → has_point (literal_cube v level) p ≡ true → is_on p v ≡ level
literal_point v true p lt is = point_one (literal_cube v true) p v lt (literal_same v true).0 is
literal_point v false p lt is = point_zero (literal_cube v false) p v lt (literal_same v false).1 is

level_test : (level x y : Bool) → (x ≡ level → y ≡ true) → (y ≡ true → x ≡ level) → y ≡ same_level level x
level_test true true y f g = f refl
level_test true false true f g = sym (g refl)
level_test true false false f g = refl
level_test false false y f g = f refl
level_test false true true f g = g refl
level_test false true false f g = refl

pub literal_points : (v : ℕ) (level : Bool) (p : List Bool) → v < length p → has_point (literal_cube v level) p ≡ same_level level (is_on p v)
literal_points v level p lt = level_test level (is_on p v) (has_point (literal_cube v level) p) (literal_has v level p) (literal_point v level p lt)

-- ---- a cube that lies in another, and the union of two

subset_bit : (a b v : ℕ) → bit_and a b ≡ b → bit_at b v ≤ bit_at a v
subset_bit a b v is = let e : bit_at b v ≡ min (bit_at a v) (bit_at b v) = ap (λ n. bit_at n v) (sym is) ∙ bit_at_and a b v in omega (arith, e)

pub lies_in_points : (c d : Cube) (p : List Bool) → lies_in c d ≡ true → has_point c p ≡ true → has_point d p ≡ true
lies_in_points c d p lies is =
    let parts = and_parts (eqb (bit_and c.yes d.yes) d.yes) (eqb (bit_and c.no d.no) d.no) lies in
    has_point_grows c d p (λ v lt. (subset_bit c.yes d.yes v (eqb-true _ _ parts.0), subset_bit c.no d.no v (eqb-true _ _ parts.1))) is

max_fits : (a b m n : ℕ) (x : Bool) → fits (max a m) (max b n) x ≡ (fits a b x && fits m n x)
max_fits a b m n true = grind (arith, nat_tests)
max_fits a b m n false = grind (arith, nat_tests)

swap_and : (a b c d : Bool) → ((a && b) && (c && d)) ≡ ((a && c) && (b && d))
swap_and true true c d = refl
swap_and true false true d = refl
swap_and true false false d = refl
swap_and false b c d = refl

union_from : (v : ℕ) (c d : Cube) (p : List Bool) → has_from v (union c d) p ≡ (has_from v c p && has_from v d p)
union_from v c d [] = refl
union_from v c d (x ∷ p) =
    rw (bit_at_or c.yes d.yes v, bit_at_or c.no d.no v, max_fits (bit_at c.yes v) (bit_at c.no v) (bit_at d.yes v) (bit_at d.no v) x, union_from (suc v) c d p)
    (swap_and (fits (bit_at c.yes v) (bit_at c.no v) x) (fits (bit_at d.yes v) (bit_at d.no v) x) (has_from (suc v) c p) (has_from (suc v) d p))

pub union_points : (c d : Cube) (p : List Bool) → has_point (union c d) p ≡ (has_point c p && has_point d p)
union_points c d p = union_from 0 c d p
