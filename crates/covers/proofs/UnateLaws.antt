-- What a cover asks, as its cubes are read one after another and in its cofactors; and how often it can be split.
use Rattle.std.proofs.Common.{◌≡◌, ℕ, zero, suc, ◌+◌, ◌-◌, ◌^◌, ◌<◌, ◌≤◌, min, Bool, inl, inr, List, [], ◌∷◌, length, get_or, drop, ◌⊎◌, ◌*◌, refl, arith, bit_or, filter, All}
use Rattle.covers.proofs.Common.{bit_at, bit_not, w32, cases_Bool, cases_eq, drop_more, drop_all, All-nil, All-cons, All-head, All-tail, All-weaker, All-map, All-filter, or_lt, pow_pos, mul-le, bit_at-lt, bit_at-zero, bit_at_or, bit_at_and, same_from_bits, Cube, full_cube, literal_cube, meets, union, without, AsksBelow, AllAskBelow, cofactor_of, asked_of, binate_of, opposite_of, branch_of, ones, splits}
use Rattle.std.specs.Int.Bits.{or_zero_r}
use Rattle.std.proofs.Math.Nat.{suc-mul}
use Rattle.covers.proofs.CubeBits.{bit_at_without, literal_below, without_lt}
use Rattle.covers.proofs.CubePoints.{lt_32}

-- ---- read one after another

or_assoc : (a b c : ℕ) → bit_or (bit_or a b) c ≡ bit_or a (bit_or b c)
or_assoc a b c = same_from_bits (bit_or (bit_or a b) c) (bit_or a (bit_or b c)) (λ i.
    let left = bit_at_or (bit_or a b) c i in
    let first = bit_at_or a b i in
    let right = bit_at_or a (bit_or b c) i in
    let second = bit_at_or b c i in
    omega (arith, left, first, right, second))

pub asked_none : (a : Cube) (cubes : List Cube) → a ≡ full_cube → union a (asked_of (drop 0 cubes)) ≡ asked_of cubes
asked_none a cubes none = rw none refl

pub asked_more : (a : Cube) (cubes : List Cube) (i : ℕ) (d : Cube) → i < length cubes → union a (asked_of (drop i cubes)) ≡ asked_of cubes
    → union (union a (get_or cubes i d)) (asked_of (drop (i + 1) cubes)) ≡ asked_of cubes
unfolding asked_of
asked_more a cubes i d lt so_far =
    let c = get_or cubes i d in
    let rest = asked_of (drop (i + 1) cubes) in
    let step = rw (drop_more cubes i d lt) at so_far in
    rw (or_assoc a.yes c.yes rest.yes, or_assoc a.no c.no rest.no) step

pub asked_all : (a : Cube) (cubes : List Cube) (i : ℕ) → length cubes ≤ i → union a (asked_of (drop i cubes)) ≡ asked_of cubes → a ≡ asked_of cubes
unfolding asked_of
asked_all a cubes i past so_far =
    let step = rw (drop_all i cubes past, or_zero_r a.yes, or_zero_r a.no) at so_far in
    step

-- ---- bounds

pub asked_below : (vars : ℕ) (cubes : List Cube) → AllAskBelow vars cubes → AsksBelow vars (asked_of cubes)
unfolding asked_of
asked_below vars [] below = (pow_pos vars, pow_pos vars)
asked_below vars (c ∷ cubes) below =
    let here = All-head (AsksBelow vars) c cubes below in
    let rest = asked_below vars cubes (All-tail (AsksBelow vars) c cubes below) in
    (or_lt vars c.yes (asked_of cubes).yes here.0 rest.0, or_lt vars c.no (asked_of cubes).no here.1 rest.1)

pub branch_below : (vars v : ℕ) (level : Bool) (asked : Cube) → AsksBelow vars asked → v < vars → AsksBelow vars (branch_of asked v level)
branch_below vars v level asked below lt =
    let literal = literal_below v vars level lt in (
      or_lt vars (opposite_of asked).yes (literal_cube v level).yes (without_lt asked.no (bit_not w32 asked.yes) vars below.1) literal.0,
      or_lt vars (opposite_of asked).no (literal_cube v level).no (without_lt asked.yes (bit_not w32 asked.no) vars below.0) literal.1,
    )

pub opposite_below : (vars : ℕ) (asked : Cube) → AsksBelow vars asked → AsksBelow vars (opposite_of asked)
opposite_below vars asked below = (without_lt asked.no (bit_not w32 asked.yes) vars below.1, without_lt asked.yes (bit_not w32 asked.no) vars below.0)

pub cofactor_below : (vars : ℕ) (by : Cube) (cubes : List Cube) → AllAskBelow vars cubes → AllAskBelow vars (cofactor_of by cubes)
cofactor_below vars by cubes below =
    All-map (AsksBelow vars) (without by) (filter (meets by) cubes)
    (All-weaker (AsksBelow vars) (λ c. AsksBelow vars (without by c)) (λ c low. (without_lt c.yes (bit_not w32 by.yes) vars low.0, without_lt c.no (bit_not w32 by.no) vars low.1))
    (filter (meets by) cubes) (All-filter (meets by) (AsksBelow vars) cubes below))

-- ---- a cube of the cover asks no more than the cover

abbrev pub AsksWithin : Cube → Cube → Type 0
AsksWithin asked c = (v : ℕ) → (bit_at c.yes v ≤ bit_at asked.yes v) × (bit_at c.no v ≤ bit_at asked.no v)

pub asked_within : (cubes : List Cube) → All (AsksWithin (asked_of cubes)) cubes
unfolding asked_of
asked_within [] = All-nil (AsksWithin full_cube)
asked_within (c ∷ cubes) = All-cons (AsksWithin (union c (asked_of cubes))) c cubes
    (λ v. let a = bit_at_or c.yes (asked_of cubes).yes v in let b = bit_at_or c.no (asked_of cubes).no v in (omega (arith, a), omega (arith, b)))
    (All-weaker (AsksWithin (asked_of cubes)) (AsksWithin (union c (asked_of cubes)))
    (λ d within v. let a = bit_at_or c.yes (asked_of cubes).yes v in let b = bit_at_or c.no (asked_of cubes).no v in (omega (arith, a, (within v).0), omega (arith, b, (within v).1)))
    cubes (asked_within cubes))

-- ---- what a cofactor asks

-- nothing more than the cover, and none of the cube's literals
abbrev pub AsksLess : Cube → Cube → Cube → ℕ → Type 0
AsksLess by asked less v = (bit_at less.yes v ≤ min (bit_at asked.yes v) (1 - bit_at by.yes v)) × (bit_at less.no v ≤ min (bit_at asked.no v) (1 - bit_at by.no v))

pub asked_cofactor : (by : Cube) (cubes : List Cube) (v : ℕ) → by.yes < 2 ^ 32 → by.no < 2 ^ 32 → v < 32 → AsksLess by (asked_of cubes) (asked_of (cofactor_of by cubes)) v
unfolding asked_of
asked_cofactor by [] v low-yes low-no small = let none = bit_at-zero v in (omega (arith, none), omega (arith, none))
asked_cofactor by (c ∷ cubes) v low-yes low-no small =
    let rest = asked_cofactor by cubes v low-yes low-no small in
    let all-yes = bit_at_or c.yes (asked_of cubes).yes v in
    let all-no = bit_at_or c.no (asked_of cubes).no v in
    elim (cases_Bool (meets by c)) [
      | inl meet ↦
          let less = asked_of (cofactor_of by cubes) in
          let more-yes = bit_at_or (without by c).yes less.yes v in
          let more-no = bit_at_or (without by c).no less.no v in
          let one-yes = bit_at_without c.yes by.yes v low-yes small in
          let one-no = bit_at_without c.no by.no v low-no small in
          rw meet (omega (arith, rest.0, all-yes, more-yes, one-yes), omega (arith, rest.1, all-no, more-no, one-no))
      | inr never ↦ rw never (omega (arith, rest.0, all-yes), omega (arith, rest.1, all-no))
    ]

-- ---- how many of the first bits are 1

ones_le : (k m n : ℕ) → ((v : ℕ) → v < k → bit_at m v ≤ bit_at n v) → ones k m ≤ ones k n
unfolding ones
ones_le zero m n each = omega arith
ones_le (suc k) m n each = let before = ones_le k m n (λ v lt. each v (omega arith)) in let here = each k (omega arith) in omega (arith, before, here)

ones_less : (k m n v : ℕ) → ((w : ℕ) → w < k → bit_at m w ≤ bit_at n w) → v < k → bit_at m v ≡ 0 → bit_at n v ≡ 1 → ones k m < ones k n
unfolding ones
ones_less zero m n v each lt none one = absurd (omega arith)
ones_less (suc k) m n v each lt none one = elim (cases_eq v k) [
  | inl same ↦
      let before = ones_le k m n (λ w below. each w (omega arith)) in
      let gone : bit_at m k ≡ 0 = rw same at none in
      let there : bit_at n k ≡ 1 = rw same at one in
      omega (arith, before, gone, there)
  | inr other ↦
      let before = ones_less k m n v (λ w below. each w (omega arith)) (omega arith) none one in
      let here = each k (omega arith) in
      omega (arith, before, here)
]

pub ones_few : (k n : ℕ) → ones k n ≤ k
unfolding ones
ones_few zero n = omega arith
ones_few (suc k) n = let before = ones_few k n in let bit = bit_at-lt n k in omega (arith, before, bit)

-- a cover that is split by a binate variable can be split less often afterwards
pub splits_less : (vars v : ℕ) (by : Cube) (cubes : List Cube) → vars ≤ 32 → AsksBelow vars by → v < vars → bit_at (binate_of (asked_of cubes)) v ≡ 1
    → (bit_at by.yes v ≡ 1) ⊎ (bit_at by.no v ≡ 1) → splits vars (cofactor_of by cubes) < splits vars cubes
splits_less vars v by cubes few below lt binate asks-it =
    let all = asked_of cubes in
    let less = asked_of (cofactor_of by cubes) in
    let low-yes = lt_32 by.yes vars below.0 few in
    let low-no = lt_32 by.no vars below.1 few in
    let fewer = λ (w : ℕ) (small : w < 32). asked_cofactor by cubes w low-yes low-no small in
    ones_less vars (binate_of less) (binate_of all) v
    (λ w small.
    let f = fewer w (omega arith) in
    let a = bit_at_and all.yes all.no w in
    let b = bit_at_and less.yes less.no w in
    omega (arith, f.0, f.1, a, b))
    lt
    (let f = fewer v (omega arith) in
    let b = bit_at_and less.yes less.no v in
    elim asks-it [ inl one ↦ omega (arith, f.0, b, one) | inr none ↦ omega (arith, f.1, b, none) ])
    binate

-- ---- room for the recursion

-- for one more level, if the cover can be split less often
pub split_room : (n m len part spare left : ℕ) → m < n → part ≤ len → n * len ≤ spare → left + part ≡ spare → m * part ≤ left
split_room n m len part spare left less few room rest =
    let a : suc m * part ≤ n * len = mul-le (suc m) part n len (omega arith) few in
    let b = suc-mul m part in
    omega (arith, a, b)

-- for one cofactor, if the cover can be split at all
pub part_room : (vars v from to spare : ℕ) (cubes : List Cube) → v < vars → bit_at (binate_of (asked_of cubes)) v ≡ 1 → splits vars cubes * (to - from) ≤ spare → to ≤ from + spare
part_room vars v from to spare cubes lt binate room =
    let some : ones vars 0 < splits vars cubes = ones_less vars 0 (binate_of (asked_of cubes)) v (λ w below. let none = bit_at-zero w in omega (arith, none)) lt (bit_at-zero v) binate in
    let a : 1 * (to - from) ≤ splits vars cubes * (to - from) = mul-le 1 (to - from) (splits vars cubes) (to - from) (omega arith) (omega arith) in
    omega (arith, a)

-- for the whole recursion, and one cofactor before it
pub whole_room : (vars len spare : ℕ) (cubes : List Cube) → vars ≤ 22 → 23 * len ≤ spare → splits vars cubes * len ≤ spare
whole_room vars len spare cubes few room =
    let a : splits vars cubes * len ≤ 23 * len = mul-le (splits vars cubes) len 23 len (let f = ones_few vars (binate_of (asked_of cubes)) in omega (arith, f)) (omega arith) in
    omega (arith, a)
