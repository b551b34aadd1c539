-- What the fields of the canonical file say of the vectors.
use Rattle.std.proofs.Common.{◌≡◌, ℕ, zero, suc, ◌+◌, ◌-◌, ◌<◌, ◌≤◌, Bool, List, [], ◌∷◌, length, map, get_or, Option, Some, None, refl, sym, ap, ◌∙◌, arith, inl, inr, add-one, ◌==◌, unwrap_or, position, filter_map}
use Rattle.jedec_writer.proofs.Common.{range_with_len, position_or_len, All, cons_option, cases_eq, eq-eqb, ne_eqb, lt-ltb, ext_get_or, All-head, All-tail, length-range_with_len, length-map-range_with_len, get_or-map-range_with_len, Table, last_of, vector_at, order_of, by_pins, vectors_of}
use Rattle.jedec_writer.proofs.LinesRead.{IsVectorText, vector_fields}
use Rattle.jedec_writer.proofs.TextRead.{written_fields}
use Rattle.jedec_writer.proofs.LastSaid.{or_none, no_pin_order, vector_said}

-- ---- numbers: that of each vector is the next one

number_below : (n k : ℕ) (vectors : List (List ℕ)) → k < n → last_of (vector_at k) (vector_fields n vectors) ≡ None
number_below n k [] below = refl
number_below n k (vector ∷ vectors) below =
    rw (number_below (suc n) k vectors (omega arith), ne_eqb n k (λ e. omega arith)) refl

first_number : (n : ℕ) (vector : List ℕ) (vectors : List (List ℕ)) → last_of (vector_at n) (vector_fields n (vector ∷ vectors)) ≡ Some vector
first_number n vector vectors = rw (number_below (suc n) n vectors (omega arith), eq-eqb n n refl) refl

later_number : (n k : ℕ) (vector : List ℕ) (vectors : List (List ℕ)) → n < k → last_of (vector_at k) (vector_fields n (vector ∷ vectors)) ≡ last_of (vector_at k) (vector_fields (suc n) vectors)
later_number n k vector vectors above =
    rw (ne_eqb n k (λ e. omega arith)) (or_none (last_of (vector_at k) (vector_fields (suc n) vectors)))

same_numbers : {A : Type 0} (f g : ℕ → Option A) (from count : ℕ) → ((k : ℕ) → from ≤ k → f k ≡ g k) → filter_map f (range_with_len from count) ≡ filter_map g (range_with_len from count)
same_numbers f g from zero same = refl
same_numbers f g from (suc count) same =
    rw (same from (omega arith), same_numbers f g (from + 1) count (λ k low. same k (omega arith))) refl

no_numbers : (from count : ℕ) → filter_map (λ k. last_of (vector_at k) []) (range_with_len from count) ≡ []
no_numbers from zero = refl
no_numbers from (suc count) = no_numbers (from + 1) count

in_order : (n count : ℕ) (vectors : List (List ℕ)) → length vectors ≤ count → filter_map (λ k. last_of (vector_at k) (vector_fields n vectors)) (range_with_len n count) ≡ vectors
in_order n count [] few = no_numbers n count
in_order n zero (vector ∷ vectors) few = absurd (omega arith)
in_order n (suc count) (vector ∷ vectors) few =
    let rest : filter_map (λ k. last_of (vector_at k) (vector_fields n (vector ∷ vectors))) (range_with_len (n + 1) count) ≡ vectors =
    same_numbers (λ k. last_of (vector_at k) (vector_fields n (vector ∷ vectors))) (λ k. last_of (vector_at k) (vector_fields (suc n) vectors)) (n + 1) count (λ k low. later_number n k vector vectors (omega arith))
    ∙ ap (λ (m : ℕ). filter_map (λ k. last_of (vector_at k) (vector_fields (suc n) vectors)) (range_with_len m count)) (add-one n)
    ∙ in_order (suc n) count vectors (omega arith) in
    ap (λ o. cons_option o (filter_map (λ k. last_of (vector_at k) (vector_fields n (vector ∷ vectors))) (range_with_len (n + 1) count))) (first_number n vector vectors)
    ∙ ap (λ (vs : List (List ℕ)). vector ∷ vs) rest

-- ---- pins: each is at its own place

place_in_range : (from count k : ℕ) → from ≤ k → k < from + count → position_or_len (λ other. other == k) (range_with_len from count) ≡ k - from
place_in_range from zero k low high = absurd (omega arith)
place_in_range from (suc count) k low high = elim (cases_eq from k) [
  | inl here ↦ rw (eq-eqb from k here) (omega arith)
  | inr there ↦ rw (ne_eqb from k there, place_in_range (from + 1) count k (omega arith) (omega arith)) (omega arith)
]

place_of_pin : (pins k : ℕ) → k < pins → position (λ other. other == 1 + k) (range_with_len 1 pins) ≡ Some k
place_of_pin pins k within =
    let place : position_or_len (λ other. other == 1 + k) (range_with_len 1 pins) ≡ k = place_in_range 1 pins (1 + k) (omega arith) (omega arith) ∙ omega arith in
    rw (place, length-range_with_len 1 pins, lt-ltb k pins within) refl

-- the order of the pins is the order of the characters
pins_in_order : (pins : ℕ) (chars : List ℕ) → length chars ≡ pins → by_pins (range_with_len 1 pins) chars ≡ chars
pins_in_order pins chars long =
    let at = λ (pin : ℕ). get_or chars (unwrap_or (position (λ other. other == pin) (range_with_len 1 pins)) 0) 0 in
    let wide : length (range_with_len 1 pins) ≡ pins = length-range_with_len 1 pins in
    ap (λ (n : ℕ). map at (range_with_len 1 n)) wide
    ∙ ext_get_or 0 (map at (range_with_len 1 pins)) chars (length-map-range_with_len at 1 pins ∙ sym long)
    (λ k within.
    let low : k < pins = omega (arith, length-map-range_with_len at 1 pins) in
    get_or-map-range_with_len at 1 pins k (1 + k) 0 low refl ∙ ap (λ o. get_or chars (unwrap_or o 0) 0) (place_of_pin pins k low))

each_in_order : (t : Table) (vectors : List (List ℕ)) → All (IsVectorText t) vectors → map (by_pins (range_with_len 1 t.pins)) vectors ≡ vectors
each_in_order t [] each = refl
each_in_order t (vector ∷ vectors) each =
    let first = All-head (IsVectorText t) vector vectors each in
    rw (pins_in_order t.pins vector first.long, each_in_order t vectors (All-tail (IsVectorText t) vector vectors each)) refl

-- ---- the vectors

numbers_read : (t : Table) (fuses : List Bool) (vectors : List (List ℕ)) (count : ℕ) → length vectors ≤ count → filter_map (λ n. last_of (vector_at n) (written_fields t fuses vectors)) (range_with_len 1 count) ≡ vectors
numbers_read t fuses vectors count few =
    same_numbers (λ n. last_of (vector_at n) (written_fields t fuses vectors)) (λ n. last_of (vector_at n) (vector_fields 1 vectors)) 1 count (λ n _. vector_said t fuses vectors n)
    ∙ in_order 1 count vectors few

order_said : (t : Table) (fuses : List Bool) (vectors : List (List ℕ)) → order_of t (written_fields t fuses vectors) ≡ range_with_len 1 t.pins
order_said t fuses vectors = ap (λ o. unwrap_or o (range_with_len 1 t.pins)) (no_pin_order t fuses vectors)

pub vectors_told : (t : Table) (fuses : List Bool) (vectors : List (List ℕ)) → length vectors ≤ 65535 → All (IsVectorText t) vectors → vectors_of t (written_fields t fuses vectors) ≡ vectors
unfolding vectors_of
vectors_told t fuses vectors few each =
    ap (λ (vs : List (List ℕ)). map (by_pins (order_of t (written_fields t fuses vectors))) vs) (numbers_read t fuses vectors 65535 few)
    ∙ ap (λ (order : List ℕ). map (by_pins order) vectors) (order_said t fuses vectors)
    ∙ each_in_order t vectors each
