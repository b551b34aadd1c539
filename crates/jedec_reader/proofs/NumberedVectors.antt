-- Test vectors by their numbers, one field more, and all of them in order.
use Rattle.std.proofs.Common.{◌≡◌, ℕ, zero, suc, ◌+◌, ◌-◌, ◌<◌, ◌≤◌, ◌^◌, List, [], ◌∷◌, ◌++◌, Option, Some, None, length, take, get_or, refl, ap, ◌∙◌, sym, arith, add-zero, zero-add, inl, inr, All, IfSome, ◌==◌, if◌then◌else◌, map, option_map, unwrap_or, filter_map, nat_lt}
use Rattle.jedec_reader.proofs.Common.{range_with_len, position_or_len, cons_option, option_or, cases_Bool, ltb-true, ne_eqb, append-nil, ext_get_or, get_or_past, get_or-take, length-take, All-cons, filter_map-append, get_or-map-range_with_len, length-map-range_with_len, Vector, Field, last_of, vector_at, order_of, by_pins, vectors_of, Table, chars_of, all_chars, IsPadded, FieldFits, ArePlaces, AreWithin, HasPutVector, HasVectors, IsPlaced, place_of, present}
use Rattle.jedec_file.specs.declared.field.Field.TheVariants as field
use Rattle.jedec_reader.proofs.LastOf.{last_of_more}

-- ---- one field more

-- the field says what the vector is, seen by its characters
put_chars : (t : Table) (order : List ℕ) (number n : ℕ) (chars : List ℕ) (vector : Vector) (before : Option (List ℕ)) (entry : Option Vector) → chars_of t vector ≡ by_pins order chars
    → option_map (chars_of t) entry ≡ option_map (by_pins order) before
    → option_map (chars_of t) (if number == n then Some vector else entry) ≡ option_map (by_pins order) (option_or (vector_at n (field.Vector number chars)) before)
put_chars t order number n chars vector before entry same so_far = elim (cases_Bool (number == n)) [
  | inl yes_it ↦ rw yes_it (ap (λ (cs : List ℕ). Some cs) same)
  | inr not_it ↦ rw not_it so_far
]

put_padded : (t : Table) (number n : ℕ) (vector : Vector) (entry : Option Vector) → IsPadded t vector → IfSome entry (IsPadded t) → IfSome (if number == n then Some vector else entry) (IsPadded t)
put_padded t number n vector entry padded so_far = elim (cases_Bool (number == n)) [
  | inl yes_it ↦ rw yes_it padded
  | inr not_it ↦ rw not_it so_far
]

-- what is said of number n with the field
said_with : (fs : List Field) (i n : ℕ) (f g : Field) → i < length fs → f ≡ get_or fs i f → f ≡ g
    → last_of (vector_at n) (take (i + 1) fs) ≡ option_or (vector_at n g) (last_of (vector_at n) (take i fs))
said_with fs i n f g low here is =
    last_of_more (vector_at n) fs i f low ∙ ap (λ h. option_or (vector_at n h) (last_of (vector_at n) (take i fs))) (sym here ∙ is)

pub vector_put : (t : Table) (order : List ℕ) (fs : List Field) (i : ℕ) (f : Field) (number : ℕ) (chars : List ℕ) (vector : Vector) (old new : List (Option Vector)) → i < length fs → f ≡ get_or fs i f
    → f ≡ field.Vector number chars → chars_of t vector ≡ by_pins order chars → IsPadded t vector → HasPutVector number vector old new
    → HasVectors t order (take i fs) old → HasVectors t order (take (i + 1) fs) new
vector_put t order fs i f number chars vector old new low here is same padded put so_far = record {
  chars = λ n. rw (put n, said_with fs i n f (field.Vector number chars) low here is)
      (put_chars t order number n chars vector (last_of (vector_at n) (take i fs)) (get_or old n None) same (so_far.chars n));
  padded = λ n. rw (put n) (put_padded t number n vector (get_or old n None) padded (so_far.padded n));
}

-- another field is no vector
other_vector : (n : ℕ) (f : Field) → ((number : ℕ) (chars : List ℕ) → f ≡ field.Vector number chars → ⊥) → vector_at n f ≡ None
other_vector n (field.FuseCount c) other = refl
other_vector n (field.PinCount c) other = refl
other_vector n (field.DefaultFuse b) other = refl
other_vector n (field.Levels first levels) other = refl
other_vector n (field.FuseSum s) other = refl
other_vector n (field.DefaultTest b) other = refl
other_vector n (field.PinOrder order) other = refl
other_vector n (field.Vector number chars) other = absurd (other number chars refl)
other_vector n field.Passed other = refl

pub vector_other : (t : Table) (order : List ℕ) (fs : List Field) (i : ℕ) (f : Field) (table : List (Option Vector)) → i < length fs → f ≡ get_or fs i f
    → ((number : ℕ) (chars : List ℕ) → f ≡ field.Vector number chars → ⊥) → HasVectors t order (take i fs) table → HasVectors t order (take (i + 1) fs) table
vector_other t order fs i f table low here other so_far = record {
  chars = λ n. rw (said_with fs i n f f low here refl, other_vector n f other) (so_far.chars n);
  padded = so_far.padded;
}

-- ---- a vector's characters at the pins

-- a place is one of the order, also if the pin has none
place_within : (order : List ℕ) (pin : ℕ) → 0 < length order → place_of order pin < length order
place_within order pin some = within (position_or_len (λ other. other == pin) order) (length order) some
  where
    within : (place count : ℕ) → 0 < count → unwrap_or (if nat_lt place count then Some place else None) 0 < count
    within place count some = elim (cases_Bool (nat_lt place count)) [
      | inl low ↦ rw low (ltb-true place count low)
      | inr high ↦ rw high some
    ]

pub places_within : (order places : List ℕ) → ArePlaces order places → 0 < length order → AreWithin places (length order)
places_within order places are some k low = rw (are k low) (place_within order (k + 1) some)

pub placed_chars : (t : Table) (order places chars : List ℕ) (vector : Vector) → IsPlaced places chars vector → ArePlaces order places → length order ≡ t.pins → length chars ≡ t.pins → t.pins ≤ 24
    → chars_of t vector ≡ by_pins order chars
placed_chars t order places chars vector placed are pins each few =
    ext_get_or 0 (take t.pins vector.chars) (by_pins order chars)
    (omega (arith, length-take t.pins vector.chars, placed.pins, length-map-range_with_len char 1 (length order), pins, few))
    (λ k low. let here : k < t.pins = omega (arith, low, length-take t.pins vector.chars) in
    get_or-take t.pins vector.chars k 0 here
    ∙ (placed.placed k (omega (arith, here, each))
    ∙ (ap (λ place. get_or chars place 0) (are k (omega (arith, here, pins)))
    ∙ sym (get_or-map-range_with_len char 1 (length order) k (k + 1) 0 (omega (arith, here, pins)) (omega arith)))))
  where
    char : ℕ → ℕ
    char pin = get_or chars (place_of order pin) 0

pub placed_padded : (t : Table) (places chars : List ℕ) (vector : Vector) → IsPlaced places chars vector → length chars ≡ t.pins → IsPadded t vector
placed_padded t places chars vector placed each k past below = placed.padded k (omega (arith, past, each)) below

-- ---- all of them in order

-- the entries of a table that holds what is said of the numbers from the first one on, seen from both sides
filter_map-table : {A B C : Type 0} (v : A → C) (w : B → C) (says : ℕ → Option B) (first : ℕ) (table : List (Option A))
    → ((n : ℕ) → n < length table → option_map v (get_or table n None) ≡ option_map w (says (first + n)))
    → map v (filter_map (λ entry. entry) table) ≡ map w (filter_map says (range_with_len first (length table)))
filter_map-table v w says first [] same = refl
filter_map-table {A} {B} {C} v w says first (entry ∷ table) same =
    both entry (says first) (rw add-zero at (same 0 (omega arith)))
    (filter_map-table v w says (first + 1) table (λ n low. let there : first + 1 + n ≡ first + suc n = omega arith in rw there (same (suc n) (omega arith))))
  where
    both : (entry : Option A) (said : Option B) → option_map v entry ≡ option_map w said → map v (filter_map (λ e. e) table) ≡ map w (filter_map says (range_with_len (first + 1) (length table)))
        → map v (cons_option entry (filter_map (λ e. e) table)) ≡ map w (cons_option said (filter_map says (range_with_len (first + 1) (length table))))
    both None None is rest = rest
    both (Some x) (Some y) is rest = cc
    both None (Some y) is rest = absurd cc
    both (Some x) None is rest = absurd cc

range_with_len-append : (a m n : ℕ) → range_with_len a (m + n) ≡ range_with_len a m ++ range_with_len (a + m) n
range_with_len-append a zero n = rw (zero-add n, add-zero a) refl
range_with_len-append a (suc m) n =
    let count : suc m + n ≡ suc (m + n) = omega arith in
    let there : a + 1 + m ≡ a + suc m = omega arith in
    rw (count, ← there) (ap (λ ks. a ∷ ks) (range_with_len-append (a + 1) m n))

-- numbers of which nothing is said
none_said : {B : Type 0} (says : ℕ → Option B) (a count : ℕ) → ((n : ℕ) → n < count → says (a + n) ≡ None) → filter_map says (range_with_len a count) ≡ []
none_said says a zero nothing = refl
none_said says a (suc count) nothing =
    let here : says a ≡ None = rw add-zero at (nothing 0 (omega arith)) in
    rw here (none_said says (a + 1) count (λ n low. let there : a + 1 + n ≡ a + suc n = omega arith in rw there (nothing (suc n) (omega arith))))

unseen : {B C : Type 0} (w : B → C) (said : Option B) → None ≡ option_map w said → said ≡ None
unseen w None is = refl
unseen w (Some x) is = absurd cc

module _ (t : Table) (order : List ℕ) (fs : List Field) (table : List (Option Vector)) (has : HasVectors t order fs table) where
  past_table : (n : ℕ) → length table ≤ n → last_of (vector_at n) fs ≡ None
  past_table n past = unseen (by_pins order) (last_of (vector_at n) fs) (rw (get_or_past table n None past) at (has.chars n))

  all_read : (rest : ℕ) → map (chars_of t) (present table) ≡ map (by_pins order) (filter_map (λ n. last_of (vector_at n) fs) (range_with_len 0 (length table + rest)))
  all_read rest =
      rw (
        range_with_len-append 0 (length table) rest,
        filter_map-append (λ n. last_of (vector_at n) fs) (range_with_len 0 (length table)) (range_with_len (0 + length table) rest),
        none_said (λ n. last_of (vector_at n) fs) (0 + length table) rest (λ n low. past_table (0 + length table + n) (omega arith)),
        append-nil (filter_map (λ n. last_of (vector_at n) fs) (range_with_len 0 (length table))),
      )
      (filter_map-table (chars_of t) (by_pins order) (λ n. last_of (vector_at n) fs) 0 table (λ n low. let there : 0 + n ≡ n = omega arith in rw there (has.chars n)))

  -- the vectors that are there are those of the numbers from 1 to the last one
  pub vectors_read : (most : ℕ) → length table ≤ suc most → last_of (vector_at 0) fs ≡ None
      → map (chars_of t) (present table) ≡ map (by_pins order) (filter_map (λ n. last_of (vector_at n) fs) (range_with_len 1 most))
  vectors_read most few none =
      let rest = suc most - length table in
      let count : length table + rest ≡ suc most = omega (arith, few) in
      let read = rw count at (all_read rest) in
      read ∙ rw none refl

-- no vector has number 0
pub no_vector_zero : (t : Table) (fs : List Field) → All (FieldFits t) fs → last_of (vector_at 0) fs ≡ None
no_vector_zero t [] all = refl
no_vector_zero t (f ∷ fs) all = rw (no_vector_zero t fs (λ k d low. all (suc k) d (omega arith))) (none f (all 0 f (omega arith)))
  where
    none : (g : Field) → FieldFits t g → vector_at 0 g ≡ None
    none (field.FuseCount c) fits = refl
    none (field.PinCount c) fits = refl
    none (field.DefaultFuse b) fits = refl
    none (field.Levels first levels) fits = refl
    none (field.FuseSum s) fits = refl
    none (field.DefaultTest b) fits = refl
    none (field.PinOrder order) fits = refl
    none (field.Vector number chars) fits = rw (ne_eqb number 0 (omega (arith, fits.0))) refl
    none field.Passed fits = refl

-- each of them is padded
pub present_padded : (t : Table) (table : List (Option Vector)) → ((n : ℕ) → IfSome (get_or table n None) (IsPadded t)) → All (IsPadded t) (present table)
present_padded t [] padded = λ k d low. absurd (omega arith)
present_padded t (None ∷ table) padded = present_padded t table (λ n. padded (suc n))
present_padded t (Some vector ∷ table) padded = All-cons (IsPadded t) vector (present table) (padded 0) (present_padded t table (λ n. padded (suc n)))

-- so a table of all vectors has those that the fields say
pub vectors_said : (t : Table) (fs : List Field) (table : List (Option Vector)) → All (FieldFits t) fs → HasVectors t (order_of t fs) fs table → length table ≤ 2 ^ 16
    → all_chars t (present table) ≡ vectors_of t fs
unfolding vectors_of
vectors_said t fs table fits has few = vectors_read t (order_of t fs) fs table has 65535 few (no_vector_zero t fs fits)
