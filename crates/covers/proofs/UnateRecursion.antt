-- The unate recursion: a cover has every point at which both branches have, and a point that a branch misses is moved to one
-- that the cover misses.
use Rattle.std.proofs.Common.{◌≡◌, ◌≢◌, ℕ, zero, suc, ◌-◌, ◌^◌, ◌<◌, ◌≤◌, min, Bool, true, false, not, ◌==◌, eqb, if◌then◌else◌, ◌⊎◌, inl, inr, List, [], ◌∷◌, ◌++◌, length, slice_range, Option, None, Some, refl, sym, ap, ◌∙◌, arith, bit_and, All, IsTrue, ◌↔◌, IfSome}
use Rattle.covers.proofs.Common.{bit_at, list_any, cases_eq, and_parts, and_cases, or_cases, or_parts, or_left, or_right, eqb-true, eqb-false, false≢true, false_from_ne_true, All-head, All-tail, pow_pos, bit_at-lt, bit_at-zero, bit_at_or, bit_at_and, bits, is_on, length-bits, Cube, fits, has_point, covers, full_cube, is_empty, is_full, literal_cube, meets, AsksBelow, AllAskBelow, CoversAll, CoversCube, cofactor_of, Misses, FindsMissed, FindsOutside, IsOutside, moved_number, asked_of, binate_of, opposite_of, branch_of, splits}
use Rattle.std.specs.Option.{is_some}
use Rattle.covers.proofs.CubeBits.{bit_at_without, bit_below, literal_same, literal_other, meets_each, single_each, some_bit}
use Rattle.covers.proofs.CubePoints.{fits_at, has_point_each, empty_has_none, full_has_all, lt_32}
use Rattle.covers.proofs.CofactorLists.{appended}
use Rattle.covers.proofs.MovedPoints.{level_in, moved, length-moved, is_on-moved, IsSingle, moved_has, covers-cofactor, covers_moved, bits-moved, moved_low}
use Rattle.covers.proofs.UnateLaws.{AsksWithin, asked_within, asked_below, branch_below, opposite_below, splits_less}

-- ---- a cube that asks nothing

full_point : (c : Cube) (p : List Bool) → is_full c ≡ true → has_point c p ≡ true
full_point c p full =
    let parts = and_parts (eqb c.yes 0) (eqb c.no 0) full in
    let yes-none : c.yes ≡ 0 = eqb-true _ _ parts.0 in
    let no-none : c.no ≡ 0 = eqb-true _ _ parts.1 in
    let same : c ≡ full_cube = rw (yes-none, no-none) refl in
    ap (λ (d : Cube). has_point d p) same ∙ full_has_all p

pub some_full : (cubes : List Cube) (p : List Bool) → list_any is_full cubes ≡ true → covers cubes p ≡ true
some_full [] p any = absurd cc
some_full (c ∷ cubes) p any =
    elim (or_cases (is_full c) (list_any is_full cubes) any) [
      | inl here ↦ or_left (has_point c p) (covers cubes p) (full_point c p here)
      | inr later ↦ or_right (has_point c p) (covers cubes p) (some_full cubes p later)
    ]

-- ---- the bits of a branch

-- the bits of the literals that were not asked: at a unate variable one of them, at a binate one neither
opposite_bits : (asked : Cube) (w : ℕ) → asked.yes < 2 ^ 32 → asked.no < 2 ^ 32 → w < 32
    → (bit_at (opposite_of asked).yes w ≡ min (bit_at asked.no w) (1 - bit_at asked.yes w)) × (bit_at (opposite_of asked).no w ≡ min (bit_at asked.yes w) (1 - bit_at asked.no w))
opposite_bits asked w low-yes low-no small = (bit_at_without asked.no asked.yes w low-yes small, bit_at_without asked.yes asked.no w low-no small)

pub opposite_single : (asked : Cube) → asked.yes < 2 ^ 32 → asked.no < 2 ^ 32 → IsSingle (opposite_of asked)
opposite_single asked low-yes low-no = λ w small. let o = opposite_bits asked w low-yes low-no small in omega (arith, o.0, o.1, bit_at-lt asked.yes w, bit_at-lt asked.no w)

-- a binate variable is asked at both levels
binate_bits : (asked : Cube) (v : ℕ) → bit_at (binate_of asked) v ≡ 1 → (bit_at asked.yes v ≡ 1) × (bit_at asked.no v ≡ 1)
binate_bits asked v one =
    let e = bit_at_and asked.yes asked.no v in
    (omega (arith, e, one, bit_at-lt asked.yes v), omega (arith, e, one, bit_at-lt asked.no v))

-- a branch's bits at its own variable
branch_same : (asked : Cube) (v : ℕ) (level : Bool) → asked.yes < 2 ^ 32 → asked.no < 2 ^ 32 → v < 32 → bit_at (binate_of asked) v ≡ 1
    → (bit_at (branch_of asked v level).yes v ≡ (if level then 1 else 0)) × (bit_at (branch_of asked v level).no v ≡ (if level then 0 else 1))
branch_same asked v true low-yes low-no small binate =
    let o = opposite_bits asked v low-yes low-no small in
    let both = binate_bits asked v binate in
    let one = literal_same v true in
    let a = bit_at_or (opposite_of asked).yes (literal_cube v true).yes v in
    let b = bit_at_or (opposite_of asked).no (literal_cube v true).no v in
    (omega (arith, o.0, o.1, both.0, both.1, one.0, one.1, a), omega (arith, o.0, o.1, both.0, both.1, one.0, one.1, b))
branch_same asked v false low-yes low-no small binate =
    let o = opposite_bits asked v low-yes low-no small in
    let both = binate_bits asked v binate in
    let one = literal_same v false in
    let a = bit_at_or (opposite_of asked).yes (literal_cube v false).yes v in
    let b = bit_at_or (opposite_of asked).no (literal_cube v false).no v in
    (omega (arith, o.0, o.1, both.0, both.1, one.0, one.1, a), omega (arith, o.0, o.1, both.0, both.1, one.0, one.1, b))

-- and at another one
branch_other : (asked : Cube) (v w : ℕ) (level : Bool) → asked.yes < 2 ^ 32 → asked.no < 2 ^ 32 → w < 32 → w ≢ v
    → (bit_at (branch_of asked v level).yes w ≡ min (bit_at asked.no w) (1 - bit_at asked.yes w)) × (bit_at (branch_of asked v level).no w ≡ min (bit_at asked.yes w) (1 - bit_at asked.no w))
branch_other asked v w level low-yes low-no small ne =
    let o = opposite_bits asked w low-yes low-no small in
    let none = literal_other v w level ne in
    let a = bit_at_or (opposite_of asked).yes (literal_cube v level).yes w in
    let b = bit_at_or (opposite_of asked).no (literal_cube v level).no w in
    (omega (arith, o.0, none.0, a), omega (arith, o.1, none.1, b))

level_single : (level : Bool) (a b : ℕ) → a ≡ (if level then 1 else 0) → b ≡ (if level then 0 else 1) → min a b ≡ 0
level_single true a b e f = omega (arith, e, f)
level_single false a b e f = omega (arith, e, f)

pub branch_single : (asked : Cube) (v : ℕ) (level : Bool) → asked.yes < 2 ^ 32 → asked.no < 2 ^ 32 → bit_at (binate_of asked) v ≡ 1 → IsSingle (branch_of asked v level)
branch_single asked v level low-yes low-no binate = λ w small.
    elim (cases_eq w v) [
      | inl same ↦
          let here = branch_same asked v level low-yes low-no (omega (arith, small, same)) binate in
          rw same (level_single level (bit_at (branch_of asked v level).yes v) (bit_at (branch_of asked v level).no v) here.0 here.1)
      | inr other ↦
          let there = branch_other asked v w level low-yes low-no small other in
          omega (arith, there.0, there.1, bit_at-lt asked.yes w, bit_at-lt asked.no w)
    ]

-- ---- every point

-- the level of a unate variable is no matter to a cube that has the level which is not asked
back_fits : (y n a b : ℕ) (x : Bool) → y < 2 → n < 2 → a ≤ y → b ≤ n
    → fits a b (if min n (1 - y) == 1 then true else (if min y (1 - n) == 1 then false else x)) ≡ true → fits a b x ≡ true
back_fits zero zero zero zero x ly ln la lb is = is
back_fits zero (suc zero) zero b true ly ln la lb is = is
back_fits zero (suc zero) zero b false ly ln la lb is = refl
back_fits (suc zero) zero a zero true ly ln la lb is = refl
back_fits (suc zero) zero a zero false ly ln la lb is = is
back_fits (suc zero) (suc zero) a b x ly ln la lb is = is
back_fits zero n (suc a) b x ly ln la lb is = absurd (omega arith)
back_fits y zero a (suc b) x ly ln la lb is = absurd (omega arith)
back_fits (suc (suc y)) n a b x ly ln la lb is = absurd (omega arith)
back_fits y (suc (suc n)) a b x ly ln la lb is = absurd (omega arith)

level_own : (x : Bool) (a b : ℕ) → a ≡ (if x then 1 else 0) → b ≡ (if x then 0 else 1) → (if a == 1 then true else (if b == 1 then false else x)) ≡ x
level_own true a b e f = rw e refl
level_own false a b e f = rw (e, f) refl

back_at : (asked c : Cube) (v w : ℕ) (x y : Bool) → asked.yes < 2 ^ 32 → asked.no < 2 ^ 32 → v < 32 → w < 32 → bit_at (binate_of asked) v ≡ 1 → AsksWithin asked c
    → (w ≡ v → x ≡ y) → fits (bit_at c.yes w) (bit_at c.no w) (level_in (branch_of asked v y) w x) ≡ true → fits (bit_at c.yes w) (bit_at c.no w) x ≡ true
back_at asked c v w x y low-yes low-no small-v small binate within own is =
    elim (cases_eq w v) [
      | inl same ↦
          let here = branch_same asked v y low-yes low-no small-v binate in
          let level : x ≡ y = own same in
          let at-v = rw same at is in
          let seen = rw level at at-v in
          rw (same, level) (rw (level_own y (bit_at (branch_of asked v y).yes v) (bit_at (branch_of asked v y).no v) here.0 here.1) at seen)
      | inr other ↦
          let there = branch_other asked v w y low-yes low-no small other in
          back_fits (bit_at asked.yes w) (bit_at asked.no w) (bit_at c.yes w) (bit_at c.no w) x (bit_at-lt asked.yes w) (bit_at-lt asked.no w) (within w).0 (within w).1
          (rw (there.0, there.1) at is)
    ]

back_point : (asked c : Cube) (v : ℕ) (p : List Bool) → length p ≤ 32 → asked.yes < 2 ^ 32 → asked.no < 2 ^ 32 → v < 32 → bit_at (binate_of asked) v ≡ 1 → AsksWithin asked c
    → has_point c (moved (branch_of asked v (is_on p v)) p) ≡ true → has_point c p ≡ true
back_point asked c v p few low-yes low-no small binate within is = has_point_each c p (λ w lt.
    let by = branch_of asked v (is_on p v) in
    let here = fits_at c (moved by p) w is (omega (arith, lt, length-moved by p)) in
    back_at asked c v w (is_on p w) (is_on p v) low-yes low-no small (omega arith) binate within (λ same. ap (is_on p) same) (rw (is_on-moved by p w lt) at here))

back_covers : (asked : Cube) (cubes : List Cube) (v : ℕ) (p : List Bool) → length p ≤ 32 → asked.yes < 2 ^ 32 → asked.no < 2 ^ 32 → v < 32 → bit_at (binate_of asked) v ≡ 1 → All (AsksWithin asked) cubes
    → covers cubes (moved (branch_of asked v (is_on p v)) p) ≡ true → covers cubes p ≡ true
back_covers asked [] v p few low-yes low-no small binate within is = absurd cc
back_covers asked (c ∷ cubes) v p few low-yes low-no small binate within is =
    elim (or_cases (has_point c (moved (branch_of asked v (is_on p v)) p)) (covers cubes (moved (branch_of asked v (is_on p v)) p)) is) [
      | inl here ↦ or_left (has_point c p) (covers cubes p) (back_point asked c v p few low-yes low-no small binate (All-head (AsksWithin asked) c cubes within) here)
      | inr later ↦ or_right (has_point c p) (covers cubes p) (back_covers asked cubes v p few low-yes low-no small binate (All-tail (AsksWithin asked) c cubes within) later)
    ]

-- every point is in the cover if both branches have every point
pub both_branches : (cubes : List Cube) (vars v : ℕ) → vars ≤ 32 → AllAskBelow vars cubes → v < vars → bit_at (binate_of (asked_of cubes)) v ≡ 1
    → ((level : Bool) → CoversAll (cofactor_of (branch_of (asked_of cubes) v level) cubes) vars) → CoversAll cubes vars
both_branches cubes vars v few below lt binate each = λ p len.
    let asked = asked_of cubes in
    let by = branch_of asked v (is_on p v) in
    let low = asked_below vars cubes below in
    let low-yes = lt_32 asked.yes vars low.0 few in
    let low-no = lt_32 asked.no vars low.1 few in
    let few-p : length p ≤ 32 = omega (arith, len, few) in
    let moved-in = covers_moved by cubes p few-p (rw len (branch_below vars v (is_on p v) asked low lt)) (branch_single asked v (is_on p v) low-yes low-no binate) in
    back_covers asked cubes v p few-p low-yes low-no (omega arith) binate (asked_within cubes) (moved-in ∙ each (is_on p v) p len)

-- ---- a missed point

-- a point that a cofactor misses, moved into its cube, is one that the cover misses
pub missed_moved : (by : Cube) (cubes : List Cube) (vars m : ℕ) → vars ≤ 32 → AsksBelow vars by → IsSingle by → Misses (cofactor_of by cubes) vars m → Misses cubes vars (moved_number by m)
missed_moved by cubes vars m few below single misses =
    let len = length-bits vars m in
    record {
      low = moved_low by vars m below.0 misses.low;
      missed = rw (bits-moved by vars m few (lt_32 by.no vars below.1 few) single) (covers_moved by cubes (bits vars m) (omega (arith, len, few)) (rw len below) single ∙ misses.missed);
    }

-- if no variable is binate, a cube that asks something has no point at which each variable is at the level that is not asked
apart_opposite : (asked c : Cube) → asked.yes < 2 ^ 32 → asked.no < 2 ^ 32 → c.yes < 2 ^ 32 → c.no < 2 ^ 32 → binate_of asked ≡ 0 → AsksWithin asked c → is_full c ≡ false → meets (opposite_of asked) c ≡ false
apart_opposite asked c low-yes low-no c-yes c-no unate within some = false_from_ne_true (meets (opposite_of asked) c) (λ meet.
    elim (and_cases (eqb c.yes 0) (eqb c.no 0) some) [
      | inl asks-yes ↦
          let ne : c.yes ≢ 0 = eqb-false _ _ asks-yes in
          let found = some_bit c.yes c-yes (omega (arith, ne)) in
          let o = opposite_bits asked found.0 low-yes low-no found.1 in
          let none : min (bit_at asked.yes found.0) (bit_at asked.no found.0) ≡ 0 = sym (bit_at_and asked.yes asked.no found.0) ∙ ap (λ n. bit_at n found.0) unate ∙ bit_at-zero found.0 in
          let never = meets_each (opposite_of asked) c meet found.0 in
          omega (arith, none, never.1, o.1, found.2, (within found.0).0, bit_at-lt asked.yes found.0, bit_at-lt asked.no found.0)
      | inr asks-no ↦
          let ne : c.no ≢ 0 = eqb-false _ _ asks-no in
          let found = some_bit c.no c-no (omega (arith, ne)) in
          let o = opposite_bits asked found.0 low-yes low-no found.1 in
          let none : min (bit_at asked.yes found.0) (bit_at asked.no found.0) ≡ 0 = sym (bit_at_and asked.yes asked.no found.0) ∙ ap (λ n. bit_at n found.0) unate ∙ bit_at-zero found.0 in
          let never = meets_each (opposite_of asked) c meet found.0 in
          omega (arith, none, never.0, o.0, found.2, (within found.0).1, bit_at-lt asked.yes found.0, bit_at-lt asked.no found.0)
    ])

all_apart : (asked : Cube) (cubes : List Cube) (vars : ℕ) → vars ≤ 32 → asked.yes < 2 ^ 32 → asked.no < 2 ^ 32 → AllAskBelow vars cubes → binate_of asked ≡ 0 → All (AsksWithin asked) cubes → list_any is_full cubes ≡ false
    → cofactor_of (opposite_of asked) cubes ≡ []
all_apart asked [] vars few low-yes low-no below unate within none = refl
all_apart asked (c ∷ cubes) vars few low-yes low-no below unate within none =
    let parts = or_parts (is_full c) (list_any is_full cubes) none in
    let here = All-head (AsksBelow vars) c cubes below in
    let never = apart_opposite asked c low-yes low-no (lt_32 c.yes vars here.0 few) (lt_32 c.no vars here.1 few) unate (All-head (AsksWithin asked) c cubes within) parts.0 in
    rw never (all_apart asked cubes vars few low-yes low-no (All-tail (AsksBelow vars) c cubes below) unate (All-tail (AsksWithin asked) c cubes within) parts.1)

-- a unate cover without a cube that asks nothing misses the point of all levels that are not asked
pub unate_missed : (cubes : List Cube) (vars : ℕ) → vars ≤ 32 → AllAskBelow vars cubes → list_any is_full cubes ≡ false → binate_of (asked_of cubes) ≡ 0
    → Misses cubes vars (moved_number (opposite_of (asked_of cubes)) 0)
unate_missed cubes vars few below none unate =
    let asked = asked_of cubes in
    let low = asked_below vars cubes below in
    let low-yes = lt_32 asked.yes vars low.0 few in
    let low-no = lt_32 asked.no vars low.1 few in
    missed_moved (opposite_of asked) cubes vars 0 few (opposite_below vars asked low) (opposite_single asked low-yes low-no)
    (record { low = pow_pos vars; missed = rw (all_apart asked cubes vars few low-yes low-no below unate (asked_within cubes) none) refl })

-- ---- what the code's steps give, over the lists that they read

pub variable_below : (vars v : ℕ) (asked : Cube) (cubes : List Cube) → AllAskBelow vars cubes → asked ≡ asked_of cubes → bit_at (bit_and asked.yes asked.no) v ≡ 1 → v < vars
variable_below vars v asked cubes below is binate =
    let low = asked_below vars cubes below in
    let bits-are = binate_bits asked v binate in
    bit_below asked.yes vars v (rw is low.0) bits-are.0

asked_own : (level : Bool) (a b : ℕ) → a ≡ (if level then 1 else 0) → b ≡ (if level then 0 else 1) → (a ≡ 1) ⊎ (b ≡ 1)
asked_own true a b e f = inl e
asked_own false a b e f = inr f

-- a branch can be split less often
pub branch_falls : (vars v from to : ℕ) (level : Bool) (asked by : Cube) (old new cubes : List Cube)
    → vars ≤ 22 → v < vars → AllAskBelow vars cubes → asked ≡ asked_of cubes → by ≡ branch_of asked v level → bit_at (binate_of asked) v ≡ 1
    → new ≡ old ++ cofactor_of by cubes → from ≡ length old → to ≡ length new
    → splits vars (slice_range new from to) < splits vars cubes
branch_falls vars v from to level asked by old new cubes few lt below is by-is binate grown start end =
    let low = asked_below vars cubes below in
    let part = appended old new (cofactor_of by cubes) from to grown start end in
    let own = branch_same asked v level (lt_32 asked.yes vars (rw is low.0) (omega arith)) (lt_32 asked.no vars (rw is low.1) (omega arith)) (omega arith) binate in
    rw (part, by-is) (splits_less vars v (branch_of asked v level) cubes (omega arith) (branch_below vars v level asked (rw is low) lt) lt (rw is at binate) (asked_own level _ _ own.0 own.1))

-- a point that a branch misses is moved to one that the cover misses
pub branch_missed : (vars v from to m found : ℕ) (level : Bool) (asked by : Cube) (old new cubes : List Cube)
    → vars ≤ 22 → v < vars → AllAskBelow vars cubes → asked ≡ asked_of cubes → by ≡ branch_of asked v level → bit_at (binate_of asked) v ≡ 1
    → new ≡ old ++ cofactor_of by cubes → from ≡ length old → to ≡ length new
    → Misses (slice_range new from to) vars m → found ≡ moved_number by m → Misses cubes vars found
branch_missed vars v from to m found level asked by old new cubes few lt below is by-is binate grown start end misses found-is =
    let low = rw (← is) at (asked_below vars cubes below) in
    let single = branch_single asked v level (lt_32 asked.yes vars low.0 (omega arith)) (lt_32 asked.no vars low.1 (omega arith)) binate in
    let part = appended old new (cofactor_of by cubes) from to grown start end in
    let there : Misses (cofactor_of (branch_of asked v level) cubes) vars m = rw (part, by-is) at misses in
    rw (found-is, by-is) (missed_moved (branch_of asked v level) cubes vars m (omega arith) (branch_below vars v level asked low lt) single there)

-- without a binate variable
pub unate_answer : (vars found : ℕ) (asked by : Cube) (cubes : List Cube) (full : Bool)
    → vars ≤ 22 → AllAskBelow vars cubes → full ≡ list_any is_full cubes → full ≡ false → asked ≡ asked_of cubes → bit_and asked.yes asked.no ≡ 0
    → by ≡ opposite_of asked → found ≡ moved_number by 0 → Misses cubes vars found
unate_answer vars found asked by cubes full few below full-is none is unate by-is found-is =
    rw (found-is, by-is, is) (unate_missed cubes vars (omega arith) below (sym full-is ∙ none) (rw is at unate))

-- if the first branch has every point, the second decides
pub second_answer : (vars v : ℕ) (asked : Cube) (cubes : List Cube) (answer : Option ℕ)
    → vars ≤ 22 → v < vars → AllAskBelow vars cubes → asked ≡ asked_of cubes → bit_at (binate_of asked) v ≡ 1
    → CoversAll (cofactor_of (branch_of asked v false) cubes) vars
    → (answer ≡ None → CoversAll (cofactor_of (branch_of asked v true) cubes) vars) → IfSome answer (λ m. Misses cubes vars m)
    → FindsMissed cubes vars answer
second_answer vars v asked cubes (Some m) few lt below is binate first second missed = missed
second_answer vars v asked cubes None few lt below is binate first second missed =
    both_branches cubes vars v (omega arith) below lt (rw is at binate)
    (λ level. elim level as (λ b. CoversAll (cofactor_of (branch_of (asked_of cubes) v b) cubes) vars) [ true ↦ rw is at (second refl) | false ↦ rw is at first ])

-- ---- the answer as a test

pub all_answer : (cubes : List Cube) (vars : ℕ) (answer : Option ℕ) (r : Bool) → FindsMissed cubes vars answer → is_some answer ≡ not r → IsTrue r ↔ CoversAll cubes vars
all_answer cubes vars None true found e = (λ _. found, λ all. refl)
all_answer cubes vars None false found e = absurd cc
all_answer cubes vars (Some m) true found e = absurd cc
all_answer cubes vars (Some m) false found e = (λ is. absurd cc, λ all. absurd (false≢true (sym found.missed ∙ all (bits vars m) (length-bits vars m))))

pub cube_answer : (cubes : List Cube) (cube : Cube) (vars : ℕ) (answer : Option ℕ) (r : Bool) → FindsOutside cubes cube vars answer → is_some answer ≡ not r → IsTrue r ↔ CoversCube cubes cube vars
cube_answer cubes cube vars None true found e = (λ _. found, λ all. refl)
cube_answer cubes cube vars None false found e = absurd cc
cube_answer cubes cube vars (Some m) true found e = absurd cc
cube_answer cubes cube vars (Some m) false found e = (λ is. absurd cc, λ all. absurd (false≢true (sym found.missed ∙ all (bits vars m) (length-bits vars m) found.inside)))

-- ---- the points of a cube

-- an empty cube has no point that could be missed
pub empty_answer : (cubes : List Cube) (cube : Cube) (vars : ℕ) → vars ≤ 22 → AsksBelow vars cube → is_empty cube ≡ true → CoversCube cubes cube vars
empty_answer cubes cube vars few below empty = λ p len is. absurd (empty_has_none cube p (omega (arith, len, few)) (rw len below) empty is)

-- the cofactor by a cube has every point at which the cover has those of the cube
pub cofactor_all : (vars from to : ℕ) (cube : Cube) (old new cubes : List Cube) → vars ≤ 22 → AsksBelow vars cube
    → new ≡ old ++ cofactor_of cube cubes → from ≡ length old → to ≡ length new
    → CoversAll (slice_range new from to) vars → CoversCube cubes cube vars
cofactor_all vars from to cube old new cubes few below grown start end all = λ p len is.
    let part = appended old new (cofactor_of cube cubes) from to grown start end in
    sym (covers-cofactor cube cubes p (omega (arith, len, few)) (rw len below) is) ∙ (rw part at all) p len

-- a point that it misses, moved into the cube, is outside
pub cofactor_missed : (vars from to m found : ℕ) (cube : Cube) (old new cubes : List Cube) → vars ≤ 22 → AsksBelow vars cube → is_empty cube ≡ false
    → new ≡ old ++ cofactor_of cube cubes → from ≡ length old → to ≡ length new
    → Misses (slice_range new from to) vars m → found ≡ moved_number cube m → IsOutside cubes cube vars found
cofactor_missed vars from to m found cube old new cubes few below some grown start end misses is =
    let part = appended old new (cofactor_of cube cubes) from to grown start end in
    let single : IsSingle cube = λ v small. single_each cube some v in
    let there = missed_moved cube cubes vars m (omega arith) below single (rw part at misses) in
    let moved-is = bits-moved cube vars m (omega arith) (lt_32 cube.no vars below.1 (omega arith)) single in
    rw is (record {
      low = there.low;
      inside = rw moved-is (moved_has cube (bits vars m) (omega (arith, length-bits vars m, few)) single);
      missed = there.missed;
    })
