-- A prime and irredundant cover of one product, or of none, has no more than one row.
use Rattle.std.proofs.Common.{◌≡◌, ◌≢◌, ℕ, zero, suc, ◌<◌, ◌≤◌, ◌^◌, Bool, true, false, not, ◌||◌, ◌==◌, List, [], ◌∷◌, length, get_or, set, Option, Some, None, refl, sym, ap, ◌∙◌, subst, arith, inl, inr, length-set, get_or-set_same, get_or-set_other}
use Rattle.fitter.proofs.Common.{bit_at, option_map, option_to_list, cases_Bool, cases_eq, eqb-true, true≢false, list_any_at, bit_at-lt, is_on, Cube, asks, covers, fits, full_cube, has_point, literal_cube, without, IsPrimeIrredundant, fits_at, has_point_each, point_one, point_zero, other_covers, both_ways, column_of, all_turned, turned, levels_turned, covers_turned, length_turned, turned_points, IsOneProduct}
use Rattle.fitter.proofs.CubeRows.{dropped_other}
use Rattle.fitter.proofs.CubeWitness.{asks_one_level}

same_bits : (c : Cube) (v : ℕ) (level : Bool) (w : ℕ) → v < 32 → w < 32 → w ≢ v
    → (bit_at (without (literal_cube v level) c).yes w ≡ bit_at c.yes w) × (bit_at (without (literal_cube v level) c).no w ≡ bit_at c.no w)
same_bits c v level w low also other = (dropped_other c v level w true low also (apart true level), dropped_other c v level w false low also (apart false level))
  where
    apart : (a b : Bool) → column_of w a ≢ column_of v b
    apart true true same = other (omega (arith, same))
    apart true false same = absurd (omega (arith, same))
    apart false true same = absurd (omega (arith, same))
    apart false false same = other (omega (arith, same))

-- one bit of the two is 1, and not both: so the level that it asks fits
own_fits : (c : Cube) (v : ℕ) (level : Bool) → asks v level c ≡ true → ((bit_at c.yes v == 0) ≡ false → (bit_at c.no v == 0) ≡ false → ⊥) → fits (bit_at c.yes v) (bit_at c.no v) level ≡ true
own_fits c v true on single =
    elim (cases_Bool (bit_at c.no v == 0)) [
      | inl off ↦ off
      | inr none ↦ absurd (single (not_zero (bit_at c.yes v) on) none)
    ]
  where
    not_zero : (n : ℕ) → (n == 1) ≡ true → (n == 0) ≡ false
    not_zero n one = let same = eqb-true n 1 one in rw same refl
own_fits c v false on single =
    elim (cases_Bool (bit_at c.yes v == 0)) [
      | inl off ↦ off
      | inr one ↦ absurd (single one (not_zero (bit_at c.no v) on))
    ]
  where
    not_zero : (n : ℕ) → (n == 1) ≡ true → (n == 0) ≡ false
    not_zero n one = let same = eqb-true n 1 one in rw same refl

-- a bit that isn't 1 is 0
is_zero : (n i : ℕ) → (bit_at n i == 1) ≡ false → (bit_at n i == 0) ≡ true
is_zero n i off = by_bit (bit_at n i) (bit_at-lt n i) off
  where
    by_bit : (b : ℕ) → b < 2 → (b == 1) ≡ false → (b == 0) ≡ true
    by_bit zero low no_one = refl
    by_bit (suc zero) low no_one = absurd (true≢false no_one)
    by_bit (suc (suc b)) low no_one = absurd (omega (arith, low))

-- a variable that isn't asked fits each level
free_fits : (d : Cube) (v : ℕ) (x : Bool) → asks v true d ≡ false → asks v false d ≡ false → fits (bit_at d.yes v) (bit_at d.no v) x ≡ true
free_fits d v true one none = is_zero d.no v none
free_fits d v false one none = is_zero d.yes v one

-- a level that a cube has isn't the one that it doesn't ask
unasked_other : (d : Cube) (v : ℕ) (level : Bool) → fits (bit_at d.yes v) (bit_at d.no v) level ≡ true → asks v (not level) d ≡ false
unasked_other d v true fit = zero_not_one (bit_at d.no v) fit
  where
    zero_not_one : (n : ℕ) → (n == 0) ≡ true → (n == 1) ≡ false
    zero_not_one n none = let same = eqb-true n 0 none in rw same refl
unasked_other d v false fit = zero_not_one (bit_at d.yes v) fit
  where
    zero_not_one : (n : ℕ) → (n == 0) ≡ true → (n == 1) ≡ false
    zero_not_one n none = let same = eqb-true n 0 none in rw same refl

module _ (vars : ℕ) (few : vars ≤ 32) (needs allows rows : List Cube) (prime : IsPrimeIrredundant needs allows vars rows) where
  no_rows : ((p : List Bool) → length p ≡ vars → covers needs p ≡ false) → 0 < length rows → ⊥
  no_rows off some = prime.irredundant 0 some (λ p long on. absurd (true≢false (sym on ∙ off p long)))

  module _ (d : Cube) (needs_is : (p : List Bool) → length p ≡ vars → covers needs p ≡ true → has_point d p ≡ true)
      (allows_is : (p : List Bool) → length p ≡ vars → covers allows p ≡ has_point d p) where
    module _ (k : ℕ) (within : k < length rows) where
      row : Cube
      row = get_or rows k full_cube

      single : (v : ℕ) → v < vars → (bit_at (get_or rows k full_cube).yes v == 0) ≡ false → (bit_at (get_or rows k full_cube).no v == 0) ≡ false → ⊥
      single v low = asks_one_level needs allows vars rows prime k within v low

      -- a point of the row without a literal, put to the literal's level, is in the product
      in_product : (v : ℕ) (level : Bool) → v < vars → asks v level (get_or rows k full_cube) ≡ true → (p : List Bool) → length p ≡ vars
          → has_point (without (literal_cube v level) (get_or rows k full_cube)) p ≡ true → has_point d (set p v level) ≡ true
      in_product v level low on p long there =
          sym (allows_is (set p v level) (length-set p v level ∙ long))
          ∙ prime.at_allowed (set p v level) (length-set p v level ∙ long)
          (list_any_at (λ c. has_point c (set p v level)) rows k full_cube within (has_point_each (get_or rows k full_cube) (set p v level) each))
        where
          each : (w : ℕ) → w < length (set p v level) → fits (bit_at (get_or rows k full_cube).yes w) (bit_at (get_or rows k full_cube).no w) (is_on (set p v level) w) ≡ true
          each w w_in =
              let w_low : w < vars = omega (arith, w_in, length-set p v level, long) in
              elim (cases_eq w v) [
                | inl same ↦
                    let here : is_on (set p v level) v ≡ level = get_or-set_same p v level false (omega (arith, low, long)) in
                    rw (same, here) (own_fits (get_or rows k full_cube) v level on (single v low))
                | inr other ↦
                    let bits = same_bits (get_or rows k full_cube) v level w (omega (arith, low, few)) (omega (arith, w_low, few)) other in
                    let there_at : is_on (set p v level) w ≡ is_on p w = get_or-set_other p v w level false other in
                    rw there_at (subst (λ n. fits n (bit_at (get_or rows k full_cube).no w) (is_on p w) ≡ true) bits.0
                    (subst (λ n. fits (bit_at (without (literal_cube v level) (get_or rows k full_cube)).yes w) n (is_on p w) ≡ true) bits.1
                    (fits_at (without (literal_cube v level) (get_or rows k full_cube)) p w there (omega (arith, w_low, long)))))
              ]

      -- each literal of the row is one of the product
      asked_too : (v : ℕ) (level : Bool) → v < vars → asks v level (get_or rows k full_cube) ≡ true → asks v level d ≡ true
      asked_too v level low on =
          elim (cases_Bool (asks v level d)) [
            | inl yes_asked ↦ yes_asked
            | inr off ↦ absurd (prime.prime k full_cube within v level low on (λ p long there. allows_is p long ∙ in_d p long off (in_product v level low on p long there)))
          ]
        where
          neither : (l : Bool) → asks v l d ≡ false → asks v (not l) d ≡ false → (asks v true d ≡ false) × (asks v false d ≡ false)
          neither true a b = (a, b)
          neither false a b = (b, a)

          in_d : (p : List Bool) → length p ≡ vars → asks v level d ≡ false → has_point d (set p v level) ≡ true → has_point d p ≡ true
          in_d p long off there = has_point_each d p each
            where
              each : (w : ℕ) → w < length p → fits (bit_at d.yes w) (bit_at d.no w) (is_on p w) ≡ true
              each w w_in =
                  elim (cases_eq w v) [
                    | inl same ↦
                        let at_v = fits_at d (set p v level) v there (omega (arith, low, long, length-set p v level)) in
                        let here : is_on (set p v level) v ≡ level = get_or-set_same p v level false (omega (arith, low, long)) in
                        let free = neither level off (unasked_other d v level (subst (λ x. fits (bit_at d.yes v) (bit_at d.no v) x ≡ true) here at_v)) in
                        rw same (free_fits d v (is_on p v) free.0 free.1)
                    | inr other ↦
                        let at_w = fits_at d (set p v level) w there (omega (arith, w_in, length-set p v level)) in
                        subst (λ x. fits (bit_at d.yes w) (bit_at d.no w) x ≡ true) (get_or-set_other p v w level false other) at_w
                  ]

      -- so the row has all points of the product
      row_has : (p : List Bool) → length p ≡ vars → has_point d p ≡ true → has_point (get_or rows k full_cube) p ≡ true
      row_has p long there = has_point_each (get_or rows k full_cube) p each
        where
          by_level : (v : ℕ) → v < vars → (x : Bool) → is_on p v ≡ x → fits (bit_at (get_or rows k full_cube).yes v) (bit_at (get_or rows k full_cube).no v) x ≡ true
          by_level v low true is =
              elim (cases_Bool (bit_at (get_or rows k full_cube).no v == 1)) [
                | inl none ↦ absurd (true≢false (sym is ∙ point_zero d p v (omega (arith, low, long)) (eqb-true (bit_at d.no v) 1 (asked_too v false low none)) there))
                | inr off ↦ is_zero (get_or rows k full_cube).no v off
              ]
          by_level v low false is =
              elim (cases_Bool (bit_at (get_or rows k full_cube).yes v == 1)) [
                | inl one ↦ absurd (true≢false (sym (point_one d p v (omega (arith, low, long)) (eqb-true (bit_at d.yes v) 1 (asked_too v true low one)) there) ∙ is))
                | inr off ↦ is_zero (get_or rows k full_cube).yes v off
              ]

          each : (v : ℕ) → v < length p → fits (bit_at (get_or rows k full_cube).yes v) (bit_at (get_or rows k full_cube).no v) (is_on p v) ≡ true
          each v low = by_level v (omega (arith, low, long)) (is_on p v) refl

    two_rows : 1 < length rows → ⊥
    two_rows more = prime.irredundant 0 (omega (arith, more)) (λ p long on. other_covers rows 0 p (omega (arith, more)) (1, more, (λ e. absurd (omega (arith, e))), row_has 1 more p long (needs_is p long on)))

-- ---- over the pairs' columns

or_off : (b : Bool) → (b || false) ≡ b
or_off true = refl
or_off false = refl

twice_turned : (mask v : ℕ) (p : List Bool) → levels_turned mask v (levels_turned mask v p) ≡ p
twice_turned mask v [] = refl
twice_turned mask v (x ∷ p) =
    elim (cases_Bool (bit_at mask v == 1)) [
      | inl on ↦ rw (on, twice_turned mask (suc v) p) (twice x)
      | inr off ↦ rw (off, twice_turned mask (suc v) p) refl
    ]
  where
    twice : (b : Bool) → (not (not b) ∷ p) ≡ (b ∷ p)
    twice true = refl
    twice false = refl

turned_one : (mask : ℕ) (o : Option Cube) (p : List Bool) → mask < 2 ^ 32 → length p ≤ 32
    → covers (option_to_list (option_map (turned mask) o)) p ≡ covers (option_to_list o) (levels_turned mask 0 p)
turned_one mask None p low short = refl
turned_one mask (Some c) p low short = ap (λ b. b || false) (turned_points mask c p low short)

-- a cover of more than one row is of no product
pub many_rows : (vars mask : ℕ) (needs rows : List Cube) → vars ≤ 32 → mask < 2 ^ 32 → IsPrimeIrredundant (all_turned mask needs) (all_turned mask needs) vars rows → 1 < length rows
    → IsOneProduct vars needs → ⊥
many_rows vars mask needs rows few low prime more one = by_product one.0 (λ p long.
    let short : length p ≤ 32 = omega (arith, long, few) in
    covers_turned mask needs p low short ∙ one.1 (levels_turned mask 0 p) (length_turned mask 0 p ∙ long) ∙ sym (turned_one mask one.0 p low short))
  where
    by_product : (o : Option Cube) → ((p : List Bool) → length p ≡ vars → covers (all_turned mask needs) p ≡ covers (option_to_list (option_map (turned mask) o)) p) → ⊥
    by_product None is = no_rows vars few (all_turned mask needs) (all_turned mask needs) rows prime is (omega (arith, more))
    by_product (Some c) is =
        two_rows vars few (all_turned mask needs) (all_turned mask needs) rows prime (turned mask c)
        (λ p long on. sym (is p long ∙ or_off (has_point (turned mask c) p)) ∙ on) (λ p long. is p long ∙ or_off (has_point (turned mask c) p)) more

-- and one of at most one row is of a product, or of none
pub one_row_is : (vars mask : ℕ) (needs : List Cube) (o : Option Cube) → vars ≤ 32 → mask < 2 ^ 32
    → IsPrimeIrredundant (all_turned mask needs) (all_turned mask needs) vars (option_to_list o) → IsOneProduct vars needs
one_row_is vars mask needs o few low prime = (
  option_map (turned mask) o,
  λ p long.
      let short : length p ≤ 32 = omega (arith, long, few) in
      let q = levels_turned mask 0 p in
      let q_long : length q ≡ vars = length_turned mask 0 p ∙ long in
      sym (ap (covers needs) (twice_turned mask 0 p))
      ∙ (sym (covers_turned mask needs q low (omega (arith, q_long, few)))
      ∙ (both_ways (covers (all_turned mask needs) q) (covers (option_to_list o) q) (prime.at_needed q q_long) (prime.at_allowed q q_long)
      ∙ sym (turned_one mask o p low short))),
)
