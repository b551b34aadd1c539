-- A point that is moved into a cube: a cover has it exactly if the cofactor by that cube has the point.
use Rattle.std.proofs.Common.{◌≡◌, ℕ, zero, suc, ◌+◌, ◌-◌, ◌^◌, ◌<◌, ◌≤◌, min, max, Bool, true, false, ◌==◌, if◌then◌else◌, inl, inr, List, [], ◌∷◌, length, refl, sym, ap, ◌∙◌, arith, bit_or}
use Rattle.covers.proofs.Common.{bit_at, bit_not, w32, cases_Bool, nat_tests, or_lt, bit_at-lt, bit_at_or, bits, is_on, length-bits, is_on-bits, same_levels, Cube, fits, has_point, covers, meets, without, AsksBelow, cofactor_of, moved_number}
use Rattle.covers.proofs.CubeBits.{bit_at_without, meets_each, without_lt}
use Rattle.covers.proofs.CubePoints.{fits_at, has_point_each, cofactor_point, lt_32}

-- the level that the cube asks, or else the one that is there
abbrev pub level_in : Cube → ℕ → Bool → Bool
level_in c v x = if bit_at c.yes v == 1 then true else (if bit_at c.no v == 1 then false else x)

pub moved_from : ℕ → Cube → List Bool → List Bool
moved_from w c [] = []
moved_from w c (x ∷ p) = level_in c w x ∷ moved_from (suc w) c p

-- the point with the levels that the cube asks
abbrev pub moved : Cube → List Bool → List Bool
moved c p = moved_from 0 c p

length-moved_from : (w : ℕ) (c : Cube) (p : List Bool) → length (moved_from w c p) ≡ length p
unfolding moved_from
length-moved_from w c [] = refl
length-moved_from w c (x ∷ p) = ap suc (length-moved_from (suc w) c p)

pub length-moved : (c : Cube) (p : List Bool) → length (moved c p) ≡ length p
length-moved c p = length-moved_from 0 c p

is_on-moved_from : (w n v : ℕ) (c : Cube) (p : List Bool) → v ≡ w + n → n < length p → is_on (moved_from w c p) n ≡ level_in c v (is_on p n)
unfolding moved_from
is_on-moved_from w n v c [] at lt = absurd (omega arith)
is_on-moved_from w zero v c (x ∷ p) at lt = let same : v ≡ w = omega arith in rw same refl
is_on-moved_from w (suc n) v c (x ∷ p) at lt = is_on-moved_from (suc w) n v c p (omega arith) (omega arith)

pub is_on-moved : (c : Cube) (p : List Bool) (v : ℕ) → v < length p → is_on (moved c p) v ≡ level_in c v (is_on p v)
is_on-moved c p v lt = is_on-moved_from 0 v v c p (omega arith) lt

-- ---- the moved point and the cube

level_fits : (a b : ℕ) (x : Bool) → a < 2 → b < 2 → min a b ≡ 0 → fits a b (if a == 1 then true else (if b == 1 then false else x)) ≡ true
level_fits zero zero true la lb single = refl
level_fits zero zero false la lb single = refl
level_fits zero (suc zero) x la lb single = refl
level_fits zero (suc (suc b)) x la lb single = absurd (omega arith)
level_fits (suc zero) zero x la lb single = refl
level_fits (suc zero) (suc b) x la lb single = absurd (omega arith)
level_fits (suc (suc a)) b x la lb single = absurd (omega arith)

-- no variable of a point is asked at both levels
abbrev pub IsSingle : Cube → Type 0
IsSingle c = (v : ℕ) → v < 32 → min (bit_at c.yes v) (bit_at c.no v) ≡ 0

pub moved_has : (c : Cube) (p : List Bool) → length p ≤ 32 → IsSingle c → has_point c (moved c p) ≡ true
moved_has c p few single = has_point_each c (moved c p) (λ v lt.
    let lt-p : v < length p = omega (arith, lt, length-moved c p) in
    rw (is_on-moved c p v lt-p) (level_fits (bit_at c.yes v) (bit_at c.no v) (is_on p v) (bit_at-lt c.yes v) (bit_at-lt c.no v) (single v (omega arith))))

-- ---- the moved point and a cube that asks none of the other's variables

off_fits : (a b m n : ℕ) (x : Bool) → a < 2 → b < 2 → m < 2 → n < 2 → min a n ≡ 0 → min b m ≡ 0
    → fits (min m (1 - a)) (min n (1 - b)) (if a == 1 then true else (if b == 1 then false else x)) ≡ fits (min m (1 - a)) (min n (1 - b)) x
off_fits zero zero m n x la lb lm ln e f = refl
off_fits (suc zero) zero m n true la lb lm ln e f = refl
off_fits (suc zero) zero m zero false la lb lm ln e f = grind (arith, nat_tests)
off_fits (suc zero) zero m (suc n) false la lb lm ln e f = absurd (omega arith)
off_fits zero (suc zero) m n false la lb lm ln e f = refl
off_fits zero (suc zero) zero n true la lb lm ln e f = grind (arith, nat_tests)
off_fits zero (suc zero) (suc m) n true la lb lm ln e f = absurd (omega arith)
off_fits (suc zero) (suc zero) zero zero x la lb lm ln e f = grind (arith, nat_tests)
off_fits (suc zero) (suc zero) (suc m) n x la lb lm ln e f = absurd (omega arith)
off_fits (suc zero) (suc zero) m (suc n) x la lb lm ln e f = absurd (omega arith)
off_fits (suc (suc a)) b m n x la lb lm ln e f = absurd (omega arith)
off_fits a (suc (suc b)) m n x la lb lm ln e f = absurd (omega arith)

off_at : (by d : Cube) (v : ℕ) (x : Bool) → by.yes < 2 ^ 32 → by.no < 2 ^ 32 → v < 32 → meets by d ≡ true
    → fits (bit_at (without by d).yes v) (bit_at (without by d).no v) (level_in by v x) ≡ fits (bit_at (without by d).yes v) (bit_at (without by d).no v) x
off_at by d v x low-yes low-no small meet =
    let apart-bits = meets_each by d meet v in
    rw (bit_at_without d.yes by.yes v low-yes small, bit_at_without d.no by.no v low-no small)
    (off_fits (bit_at by.yes v) (bit_at by.no v) (bit_at d.yes v) (bit_at d.no v) x (bit_at-lt by.yes v) (bit_at-lt by.no v) (bit_at-lt d.yes v) (bit_at-lt d.no v) apart-bits.0 apart-bits.1)

same_bool : (a b : Bool) → (a ≡ true → b ≡ true) → (b ≡ true → a ≡ true) → a ≡ b
same_bool true b f g = sym (f refl)
same_bool false true f g = g refl
same_bool false false f g = refl

-- a cube of the cofactor has the moved point at which it has the point
off_point : (by d : Cube) (p : List Bool) → length p ≤ 32 → by.yes < 2 ^ 32 → by.no < 2 ^ 32 → meets by d ≡ true → has_point (without by d) (moved by p) ≡ has_point (without by d) p
off_point by d p few low-yes low-no meet = same_bool (has_point (without by d) (moved by p)) (has_point (without by d) p)
    (λ is. has_point_each (without by d) p (λ v lt.
    let here = fits_at (without by d) (moved by p) v is (omega (arith, lt, length-moved by p)) in
    sym (off_at by d v (is_on p v) low-yes low-no (omega arith) meet) ∙ rw (is_on-moved by p v lt) at here))
    (λ is. has_point_each (without by d) (moved by p) (λ v lt.
    let lt-p : v < length p = omega (arith, lt, length-moved by p) in
    rw (is_on-moved by p v lt-p) (off_at by d v (is_on p v) low-yes low-no (omega arith) meet ∙ fits_at (without by d) p v is lt-p)))

pub covers_off : (by : Cube) (cubes : List Cube) (p : List Bool) → length p ≤ 32 → AsksBelow (length p) by → covers (cofactor_of by cubes) (moved by p) ≡ covers (cofactor_of by cubes) p
covers_off by [] p few below = refl
covers_off by (d ∷ cubes) p few below =
    let rest = covers_off by cubes p few below in
    elim (cases_Bool (meets by d)) [
      | inl meet ↦ rw (meet, off_point by d p few (lt_32 by.yes (length p) below.0 few) (lt_32 by.no (length p) below.1 few) meet, rest) refl
      | inr never ↦ rw never rest
    ]

-- at the points of a cube the cofactor by it says what the cover says
pub covers-cofactor : (by : Cube) (cubes : List Cube) (p : List Bool) → length p ≤ 32 → AsksBelow (length p) by → has_point by p ≡ true → covers (cofactor_of by cubes) p ≡ covers cubes p
covers-cofactor by [] p few below inside = refl
covers-cofactor by (d ∷ cubes) p few below inside =
    let rest = covers-cofactor by cubes p few below inside in
    let here = cofactor_point by d p few below inside in
    elim (cases_Bool (meets by d)) [
      | inl meet ↦ rw (here, meet, rest) refl
      | inr never ↦ rw (here, never, rest) refl
    ]

-- a cover has the moved point exactly if the cofactor has the point
pub covers_moved : (by : Cube) (cubes : List Cube) (p : List Bool) → length p ≤ 32 → AsksBelow (length p) by → IsSingle by → covers cubes (moved by p) ≡ covers (cofactor_of by cubes) p
covers_moved by cubes p few below single =
    let len = length-moved by p in
    sym (covers-cofactor by cubes (moved by p) (omega (arith, len)) (rw len below) (moved_has by p few single)) ∙ covers_off by cubes p few below

-- ---- a moved point as a number

moved_bit : (m a b : ℕ) → m < 2 → a < 2 → b < 2 → min a b ≡ 0 → (min (max m a) (1 - b) == 1) ≡ (if a == 1 then true else (if b == 1 then false else (m == 1)))
moved_bit zero zero zero lm la lb single = refl
moved_bit (suc zero) zero zero lm la lb single = refl
moved_bit zero (suc zero) zero lm la lb single = refl
moved_bit (suc zero) (suc zero) zero lm la lb single = refl
moved_bit zero zero (suc zero) lm la lb single = refl
moved_bit (suc zero) zero (suc zero) lm la lb single = refl
moved_bit m (suc zero) (suc zero) lm la lb single = absurd (omega arith)
moved_bit (suc (suc m)) a b lm la lb single = absurd (omega arith)
moved_bit m (suc (suc a)) b lm la lb single = absurd (omega arith)
moved_bit m a (suc (suc b)) lm la lb single = absurd (omega arith)

pub bits-moved : (c : Cube) (vars m : ℕ) → vars ≤ 32 → c.no < 2 ^ 32 → IsSingle c → bits vars (moved_number c m) ≡ moved c (bits vars m)
bits-moved c vars m few low single =
    same_levels (bits vars (moved_number c m)) (moved c (bits vars m)) (length-bits vars (moved_number c m) ∙ sym (length-moved c (bits vars m) ∙ length-bits vars m))
    (λ v below.
    let lt : v < vars = omega (arith, below, length-bits vars (moved_number c m)) in
    let there = is_on-moved c (bits vars m) v (omega (arith, lt, length-bits vars m)) in
    let taken = bit_at_without (bit_or m c.yes) c.no v low (omega arith) in
    let joined = bit_at_or m c.yes v in
    is_on-bits vars (moved_number c m) v lt
    ∙ rw (taken, joined) (moved_bit (bit_at m v) (bit_at c.yes v) (bit_at c.no v) (bit_at-lt m v) (bit_at-lt c.yes v) (bit_at-lt c.no v) (single v (omega arith)))
    ∙ sym (there ∙ ap (λ (x : Bool). level_in c v x) (is_on-bits vars m v lt)))

pub moved_low : (c : Cube) (vars m : ℕ) → c.yes < 2 ^ vars → m < 2 ^ vars → moved_number c m < 2 ^ vars
moved_low c vars m asked low = without_lt (bit_or m c.yes) (bit_not w32 c.no) vars (or_lt vars m c.yes low asked)
