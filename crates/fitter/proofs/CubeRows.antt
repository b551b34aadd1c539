-- Rows that hold a prime and irredundant list of cubes are a prime cover of the device.
use Rattle.std.proofs.Common.{◌≡◌, ◌≢◌, ℕ, zero, suc, ◌+◌, ◌*◌, ◌/◌, ◌%◌, ◌-◌, ◌<◌, ◌≤◌, min, Bool, true, false, not, ◌&&◌, ◌||◌, ◌==◌, List, [], ◌∷◌, length, map, set, remove, replicate, get_or, refl, ap, sym, ◌∙◌, subst, arith, inl, inr, length-set, get_or-set_same, get_or-set_other}
use Rattle.fitter.proofs.Common.{bit_at, list_any, range_with_len, cases_eq, cases_lt, and_parts, or_cases, or_left, or_right, eq-eqb, eqb-true, eqb-false, true≢false, not-true, length-map, list_any_at, length-map-range_with_len, get_or-map-range_with_len, bit_at-lt, bit_at-zero, is_on, Levels, same_levels, Table, IsDevice, carried, columns_of, is_switched_on, pair_values, row_is_true, row_value, Ranked, has, Cube, asks, covers, fits, full_cube, has_from, has_point, literal_cube, without, IsPrimeIrredundant, PlainNetlist, netlist_waits, signal_count, IsSound, IsPrimeCover, IsPrimeRow, IsValuedFor, any_other, is_used, value_without, both_ways, HasPair, column_of, unused_value, HoldsCubes, fuse_at, row_of, zeros, IsFunctionOf}
use Rattle.device_logic.proofs.Runs.{any_at, one_of}
use Rattle.covers.proofs.CubeBits.{bit_at_without, literal_below, literal_other, literal_same}
use Rattle.netlist_laws.proofs.RowLiterals.{pair_of}
use Rattle.fitter.proofs.PairPoints.{point_of}

-- ---- the row of a cube

high_value : (a b rest : Bool) → ((a || true) && ((b || false) && rest)) ≡ (b && rest)
high_value true true rest = refl
high_value true false rest = refl
high_value false true rest = refl
high_value false false rest = refl

low_value : (a b rest : Bool) → ((a || false) && ((b || true) && rest)) ≡ (a && rest)
low_value true true rest = refl
low_value true false rest = refl
low_value false true rest = refl
low_value false false rest = refl

two_fuses : (one none : ℕ) (value rest : Bool) → (((one == 0) || value) && (((none == 0) || not value) && rest)) ≡ (fits one none value && rest)
two_fuses one none true rest = high_value (one == 0) (none == 0) rest
two_fuses one none false rest = low_value (one == 0) (none == 0) rest

even_place : (v : ℕ) (c : Cube) → fuse_at c (2 * v) ≡ (bit_at c.yes v == 0)
even_place v c =
    let half : 2 * v / 2 ≡ v = omega arith in
    let rest : 2 * v % 2 ≡ 0 = omega arith in
    rw (rest, half) refl

odd_place : (v : ℕ) (c : Cube) → fuse_at c (2 * v + 1) ≡ (bit_at c.no v == 0)
odd_place v c =
    let half : (2 * v + 1) / 2 ≡ v = omega arith in
    let rest : (2 * v + 1) % 2 ≡ 1 = omega arith in
    rw (rest, half) refl

row_from : (v : ℕ) (c : Cube) (values : List Bool) → row_is_true (map (fuse_at c) (range_with_len (2 * v) (2 * length values))) (columns_of values) ≡ has_from v c values
row_from v c [] = refl
row_from v c (value ∷ values) =
    let more : 2 * suc (length values) ≡ suc (suc (2 * length values)) = omega arith in
    let next : 2 * v + 1 + 1 ≡ 2 * suc v = omega arith in
    rw (more, even_place v c, odd_place v c, next, row_from (suc v) c values)
    (two_fuses (bit_at c.yes v) (bit_at c.no v) value (has_from (suc v) c values))

cube_row : (t : Table) (c : Cube) (values : List Bool) → t.columns ≡ 2 * length values → row_is_true (row_of t c) (columns_of values) ≡ has_point c values
unfolding row_of
cube_row t c values wide = rw wide (row_from 0 c values)

row_fuse : (t : Table) (c : Cube) (column : ℕ) → column < t.columns → is_on (row_of t c) column ≡ fuse_at c column
unfolding row_of
row_fuse t c column low = get_or-map-range_with_len (fuse_at c) 0 t.columns column column false low (omega arith)

-- ---- a literal left out

-- the literal's bit of a cube
abbrev pub literal : ℕ → Bool → Cube → ℕ
literal v true c = bit_at c.yes v
literal v false c = bit_at c.no v

fuse_literal : (c : Cube) (v : ℕ) (level : Bool) → fuse_at c (column_of v level) ≡ (literal v level c == 0)
fuse_literal c v true = even_place v c
fuse_literal c v false = odd_place v c

-- an asked literal
is_asked : (n i : ℕ) → (bit_at n i == 0) ≡ false → bit_at n i ≡ 1
is_asked n i off = let other = eqb-false (bit_at n i) 0 off in let low = bit_at-lt n i in omega (arith, other, low)

asked : (c : Cube) (v : ℕ) (level : Bool) → fuse_at c (column_of v level) ≡ false → asks v level c ≡ true
asked c v true off = eq-eqb (bit_at c.yes v) 1 (is_asked c.yes v (sym (even_place v c) ∙ off))
asked c v false off = eq-eqb (bit_at c.no v) 1 (is_asked c.no v (sym (odd_place v c) ∙ off))

less_yes : (c : Cube) (v w : ℕ) (level : Bool) → v < 32 → w < 32 → bit_at (without (literal_cube v level) c).yes w ≡ min (bit_at c.yes w) (1 - bit_at (literal_cube v level).yes w)
less_yes c v w level low small = bit_at_without c.yes (literal_cube v level).yes w (literal_below v 32 level low).0 small

less_no : (c : Cube) (v w : ℕ) (level : Bool) → v < 32 → w < 32 → bit_at (without (literal_cube v level) c).no w ≡ min (bit_at c.no w) (1 - bit_at (literal_cube v level).no w)
less_no c v w level low small = bit_at_without c.no (literal_cube v level).no w (literal_below v 32 level low).1 small

gone : (a b n : ℕ) → a ≡ min b (1 - n) → n ≡ 1 → a ≡ 0
gone a b n is one = omega (arith, is, one)

kept : (a b n : ℕ) → a ≡ min b (1 - n) → n ≡ 0 → b < 2 → a ≡ b
kept a b n is none low = omega (arith, is, none, low)

pub dropped_same : (c : Cube) (v : ℕ) (level : Bool) → v < 32 → literal v level (without (literal_cube v level) c) ≡ 0
dropped_same c v true low = gone _ (bit_at c.yes v) (bit_at (literal_cube v true).yes v) (less_yes c v v true low low) (literal_same v true).0
dropped_same c v false low = gone _ (bit_at c.no v) (bit_at (literal_cube v false).no v) (less_no c v v false low low) (literal_same v false).1

pub dropped_other : (c : Cube) (v : ℕ) (level : Bool) (w : ℕ) (l : Bool) → v < 32 → w < 32 → column_of w l ≢ column_of v level → literal w l (without (literal_cube v level) c) ≡ literal w l c
dropped_other c v true w true low also other =
    kept _ (bit_at c.yes w) (bit_at (literal_cube v true).yes w) (less_yes c v w true low also) (literal_other v w true (λ same. other (ap (λ i. 2 * i) same))).0 (bit_at-lt c.yes w)
dropped_other c v true w false low also other = kept _ (bit_at c.no w) (bit_at 0 w) (less_no c v w true low also) (bit_at-zero w) (bit_at-lt c.no w)
dropped_other c v false w true low also other = kept _ (bit_at c.yes w) (bit_at 0 w) (less_yes c v w false low also) (bit_at-zero w) (bit_at-lt c.yes w)
dropped_other c v false w false low also other =
    kept _ (bit_at c.no w) (bit_at (literal_cube v false).no w) (less_no c v w false low also) (literal_other v w false (λ same. other (ap (λ i. 2 * i + 1) same))).1 (bit_at-lt c.no w)

-- a column by its pair and level
record IsColumn (k : ℕ) : Type 0 where
  pair : ℕ
  level : Bool
  is : k ≡ column_of pair level

column_is : (k : ℕ) → IsColumn k
column_is k = by_place (pair_of k)
  where
    by_place : HasPair k → IsColumn k
    by_place h = elim h.place [ inl e ↦ record { pair = h.pair; level = true; is = e } | inr e ↦ record { pair = h.pair; level = false; is = e } ]

pair_low : (pair columns : ℕ) (level : Bool) → columns ≤ 44 → column_of pair level < columns → pair < 32
pair_low pair columns true few low = omega (arith, few, low)
pair_low pair columns false few low = omega (arith, few, low)

fuse_dropped : (c : Cube) (v : ℕ) (level : Bool) (k columns : ℕ) → v < 32 → columns ≤ 44 → k < columns → k ≢ column_of v level → fuse_at (without (literal_cube v level) c) k ≡ fuse_at c k
fuse_dropped c v level k columns low few within other =
    let col = column_is k in
    rw col.is (fuse_literal (without (literal_cube v level) c) col.pair col.level
    ∙ (ap (λ b. b == 0) (dropped_other c v level col.pair col.level low (pair_low col.pair columns col.level few (subst (λ i. i < columns) col.is within)) (λ same. other (col.is ∙ same)))
    ∙ sym (fuse_literal c col.pair col.level)))

-- the row with a column opened is that of the cube without the literal
row_dropped : (t : Table) (c : Cube) (v : ℕ) (level : Bool) → v < 32 → t.columns ≤ 44 → column_of v level < t.columns → set (row_of t c) (column_of v level) true ≡ row_of t (without (literal_cube v level) c)
unfolding row_of
row_dropped t c v level low few within =
    same_levels (set (row_of t c) (column_of v level) true) (row_of t (without (literal_cube v level) c)) (long ∙ sym (length-map-range_with_len (fuse_at (without (literal_cube v level) c)) 0 t.columns))
    (λ k below. at k (subst (λ n. k < n) long below))
  where
    long : length (set (map (fuse_at c) (range_with_len 0 t.columns)) (column_of v level) true) ≡ t.columns
    long = length-set (map (fuse_at c) (range_with_len 0 t.columns)) (column_of v level) true ∙ length-map-range_with_len (fuse_at c) 0 t.columns

    at : (k : ℕ) → k < t.columns → is_on (set (map (fuse_at c) (range_with_len 0 t.columns)) (column_of v level) true) k ≡ is_on (map (fuse_at (without (literal_cube v level) c)) (range_with_len 0 t.columns)) k
    at k below =
        elim (cases_eq k (column_of v level)) [
          | inl here ↦
              rw here (get_or-set_same (map (fuse_at c) (range_with_len 0 t.columns)) (column_of v level) true false (subst (λ n. column_of v level < n) (sym (length-map-range_with_len (fuse_at c) 0 t.columns)) within)
              ∙ sym (get_or-map-range_with_len (fuse_at (without (literal_cube v level) c)) 0 t.columns (column_of v level) (column_of v level) false within (omega arith)
              ∙ (fuse_literal (without (literal_cube v level) c) v level ∙ ap (λ b. b == 0) (dropped_same c v level low))))
          | inr other ↦
              get_or-set_other (map (fuse_at c) (range_with_len 0 t.columns)) (column_of v level) k true false other
              ∙ (get_or-map-range_with_len (fuse_at c) 0 t.columns k k false below (omega arith)
              ∙ (sym (fuse_dropped c v level k t.columns low few below other)
              ∙ sym (get_or-map-range_with_len (fuse_at (without (literal_cube v level) c)) 0 t.columns k k false below (omega arith))))
        ]

-- ---- lists

-- one that passes
record Passes (f : Cube → Bool) (cubes : List Cube) : Type 0 where
  place : ℕ
  within : place < length cubes
  on : f (get_or cubes place full_cube) ≡ true

passing : (f : Cube → Bool) (cubes : List Cube) → list_any f cubes ≡ true → Passes f cubes
passing f [] some = absurd (true≢false (sym some))
passing f (c ∷ cubes) some =
    elim (or_cases (f c) (list_any f cubes) some) [
      | inl here ↦ record { place = 0; within = omega arith; on = here }
      | inr later ↦ let rest = passing f cubes later in record { place = suc rest.place; within = omega (arith, rest.within); on = rest.on }
    ]

-- one that isn't left out passes
any_left : (f : Cube → Bool) (cubes : List Cube) (k j : ℕ) → j ≢ k → j < length cubes → f (get_or cubes j full_cube) ≡ true → list_any f (remove cubes k) ≡ true
any_left f [] k j other within on = absurd (omega arith)
any_left f (c ∷ cubes) zero zero other within on = absurd (other refl)
any_left f (c ∷ cubes) zero (suc j) other within on = list_any_at f cubes j full_cube (omega arith) on
any_left f (c ∷ cubes) (suc k) zero other within on = or_left (f c) (list_any f (remove cubes k)) on
any_left f (c ∷ cubes) (suc k) (suc j) other within on = or_right (f c) (list_any f (remove cubes k)) (any_left f cubes k j (λ same. other (ap (λ i. suc i) same)) (omega arith) on)

none_of : (n : ℕ) → list_any (λ (b : Bool). b) (replicate n false) ≡ false
none_of zero = refl
none_of (suc n) = none_of n

-- ---- the rows of cubes

module _ (t : Table) (laws : IsDevice t) (fuses : List Bool) (size : length fuses ≡ t.fuses) (net : PlainNetlist) (sound : IsSound t net) (ranks : Ranked (signal_count t net) (netlist_waits t net))
    (first room : ℕ) (cubes : List Cube) (holds : HoldsCubes t fuses first room cubes)
    (on_each : (i : ℕ) → i < length cubes → is_switched_on t fuses (first + i) ≡ true) (below : first + room ≤ t.rows) where
  values_wide : (at : Levels) → t.columns ≡ 2 * length (pair_values t fuses at)
  values_wide at = omega (arith, laws.sizes.columns_even, length-map t.pairs (carried t fuses at))

  values_long : (at : Levels) → length (pair_values t fuses at) ≡ length t.pairs
  values_long at = length-map t.pairs (carried t fuses at)

  row_true : (at : Levels) (i : ℕ) → i < length cubes → row_value t fuses at (first + i) ≡ has_point (get_or cubes i full_cube) (pair_values t fuses at)
  row_true at i within = rw (on_each i within, holds.rows i within) (cube_row t (get_or cubes i full_cube) (pair_values t fuses at) (values_wide at))

  rest_unused : (i : ℕ) → length cubes ≤ i → i < room → is_used t fuses (first + i) ≡ false
  unfolding zeros
  rest_unused i past within = rw (holds.rest i past within) (none_of t.columns)

  -- a row of the list by its place
  record IsAt (row : ℕ) : Type 0 where
    place : ℕ
    is : row ≡ first + place
    within : place < room

  at_place : (row : ℕ) → first ≤ row → row < first + room → IsAt row
  at_place row low high = record { place = row - first; is = omega (arith, low); within = omega (arith, low, high) }

  at_of : (row : ℕ) → has (range_with_len first room) row ≡ true → IsAt row
  at_of row there =
      let k = one_of (λ x. row == x) first room there in
      subst IsAt (sym (eqb-true row k.0 k.3)) (at_place k.0 k.1 k.2)

  used_place : (i : ℕ) → i < room → is_used t fuses (first + i) ≡ true → i < length cubes
  used_place i within used =
      elim (cases_lt i (length cubes)) [
        | inl less ↦ less
        | inr past ↦ absurd (true≢false (sym used ∙ rest_unused i past within))
      ]

  true_place : (at : Levels) (i : ℕ) → i < room → row_value t fuses at (first + i) ≡ true → i < length cubes
  true_place at i within on =
      elim (cases_lt i (length cubes)) [
        | inl less ↦ less
        | inr past ↦ absurd (true≢false (sym on ∙ unused_value t laws fuses size (first + i) at (omega (arith, within, below)) (rest_unused i past within)))
      ]

  -- the OR of the rows is that of the cubes
  any_cube : (at : Levels) → list_any (row_value t fuses at) (range_with_len first room) ≡ covers cubes (pair_values t fuses at)
  any_cube at = both_ways (list_any (row_value t fuses at) (range_with_len first room)) (covers cubes (pair_values t fuses at)) down up
    where
      down : list_any (row_value t fuses at) (range_with_len first room) ≡ true → covers cubes (pair_values t fuses at) ≡ true
      down on =
          let row = one_of (row_value t fuses at) first room on in
          let i = at_place row.0 row.1 row.2 in
          let is_true : row_value t fuses at (first + i.place) ≡ true = subst (λ r. row_value t fuses at r ≡ true) i.is row.3 in
          let within = true_place at i.place i.within is_true in
          list_any_at (λ c. has_point c (pair_values t fuses at)) cubes i.place full_cube within (sym (row_true at i.place within) ∙ is_true)

      up : covers cubes (pair_values t fuses at) ≡ true → list_any (row_value t fuses at) (range_with_len first room) ≡ true
      up on =
          let c = passing (λ c. has_point c (pair_values t fuses at)) cubes on in
          any_at (row_value t fuses at) first room (first + c.place) (omega arith) (let fit = holds.fit in let low = c.within in omega (arith, fit, low)) (row_true at c.place c.within ∙ c.on)

  module _ (needs allows : List Cube) (needed allowed : Levels → Bool) (needed_is : IsFunctionOf t net fuses needs needed) (allowed_is : IsFunctionOf t net fuses allows allowed) (prime : IsPrimeIrredundant needs allows (length t.pairs) cubes) where
    -- a point where what the pairs carry is in the cube without the literal
    without_true : (at : Levels) (i : ℕ) (v : ℕ) (level : Bool) → i < length cubes → column_of v level < t.columns → has_point (without (literal_cube v level) (get_or cubes i full_cube)) (pair_values t fuses at) ≡ true → value_without t fuses at (first + i) (column_of v level) ≡ true
    without_true at i v level within low there =
        let few = laws.sizes.columns_high in
        let v_low = pair_low v t.columns level few low in
        rw (on_each i within, holds.rows i within, row_dropped t (get_or cubes i full_cube) v level v_low few low)
        (cube_row t (without (literal_cube v level) (get_or cubes i full_cube)) (pair_values t fuses at) (values_wide at) ∙ there)

    prime_row : (i : ℕ) → i < length cubes → IsPrimeRow t net fuses allowed (first + i)
    prime_row i within column low off left_out =
        prime.prime i full_cube within col.pair col.level pair_in literal_on (λ p long there.
        let point = point_of t laws fuses size net sound ranks p long in
        let there_at : has_point (without (literal_cube col.pair col.level) (get_or cubes i full_cube)) (pair_values t fuses point.at) ≡ true = rw point.carry there in
        let ok = left_out point.at point.is_valued (subst (λ k. value_without t fuses point.at (first + i) k ≡ true) (sym col.is) (without_true point.at i col.pair col.level within (subst (λ k. k < t.columns) col.is low) there_at)) in
        subst (λ values. covers allows values ≡ true) point.carry (sym (allowed_is point.at point.is_valued) ∙ ok))
      where
        col : IsColumn column
        col = column_is column

        pair_in : (column_is column).pair < length t.pairs
        pair_in = in_pairs (column_is column).pair (column_is column).level (subst (λ k. k < t.columns) (column_is column).is low)
          where
            in_pairs : (pair : ℕ) (level : Bool) → column_of pair level < t.columns → pair < length t.pairs
            in_pairs pair true less = omega (arith, less, laws.sizes.columns_even)
            in_pairs pair false less = omega (arith, less, laws.sizes.columns_even)

        literal_on : asks (column_is column).pair (column_is column).level (get_or cubes i full_cube) ≡ true
        literal_on = asked (get_or cubes i full_cube) (column_is column).pair (column_is column).level (sym (ap (fuse_at (get_or cubes i full_cube)) (column_is column).is) ∙ (sym (row_fuse t (get_or cubes i full_cube) column low) ∙ (sym (ap (λ fs. is_on fs column) (holds.rows i within)) ∙ off)))

    cover_of_cubes : IsPrimeCover t net fuses (range_with_len first room) needed allowed
    cover_of_cubes = record {
      at_needed = λ at is on. any_cube at ∙ prime.at_needed (pair_values t fuses at) (values_long at) (sym (needed_is at is) ∙ on);
      at_allowed = λ at is on. allowed_is at is ∙ prime.at_allowed (pair_values t fuses at) (values_long at) (sym (any_cube at) ∙ on);
      no_literal = λ row there used.
          let i = at_of row there in
          subst (IsPrimeRow t net fuses allowed) (sym i.is) (prime_row i.place (used_place i.place i.within (subst (λ r. is_used t fuses r ≡ true) i.is used)));
      no_row = λ row there used left_out.
          let i = at_of row there in
          let within = used_place i.place i.within (subst (λ r. is_used t fuses r ≡ true) i.is used) in
          prime.irredundant i.place within (λ p long on. another row i left_out p long on);
    }
      where
        another : (row : ℕ) (i : IsAt row) → ((at : Levels) → IsValuedFor t net at → needed at ≡ true → any_other t fuses at (range_with_len first room) row ≡ true) → (p : List Bool) → length p ≡ length t.pairs → covers needs p ≡ true → covers (remove cubes i.place) p ≡ true
        another row i left_out p long on =
            let point = point_of t laws fuses size net sound ranks p long in
            let needed_at : needed point.at ≡ true = needed_is point.at point.is_valued ∙ subst (λ values. covers needs values ≡ true) (sym point.carry) on in
            let other = one_of (λ r. not (r == row) && row_value t fuses point.at r) first room (left_out point.at point.is_valued needed_at) in
            let j = at_place other.0 other.1 other.2 in
            let parts = and_parts (not (other.0 == row)) (row_value t fuses point.at other.0) other.3 in
            let is_true : row_value t fuses point.at (first + j.place) ≡ true = subst (λ r. row_value t fuses point.at r ≡ true) j.is parts.1 in
            let within = true_place point.at j.place j.within is_true in
            let apart : j.place ≢ i.place = λ same. eqb-false other.0 row (not-true (other.0 == row) parts.0) (j.is ∙ (ap (λ k. first + k) same ∙ sym i.is)) in
            subst (λ values. covers (remove cubes i.place) values ≡ true) point.carry
            (any_left (λ c. has_point c (pair_values t fuses point.at)) cubes i.place j.place apart within (sym (row_true point.at j.place within) ∙ is_true))

-- rows that hold the cubes are a prime cover
pub cubes_cover : (t : Table) → IsDevice t → (fuses : List Bool) → length fuses ≡ t.fuses → (net : PlainNetlist) → IsSound t net → Ranked (signal_count t net) (netlist_waits t net)
    → (first room : ℕ) (cubes : List Cube) → HoldsCubes t fuses first room cubes → ((i : ℕ) → i < length cubes → is_switched_on t fuses (first + i) ≡ true) → first + room ≤ t.rows
    → (needs allows : List Cube) (needed allowed : Levels → Bool) → IsFunctionOf t net fuses needs needed → IsFunctionOf t net fuses allows allowed
    → IsPrimeIrredundant needs allows (length t.pairs) cubes → IsPrimeCover t net fuses (range_with_len first room) needed allowed
cubes_cover t laws fuses size net sound ranks first room cubes holds on_each below needs allows needed allowed needed_is allowed_is prime =
    cover_of_cubes t laws fuses size net sound ranks first room cubes holds on_each below needs allows needed allowed needed_is allowed_is prime
