-- The characters of the positions of a side, the first of each pin, and those of a vector, pin after pin.
use Rattle.std.proofs.Common.{◌≡◌, ℕ, ◌+◌, ◌<◌, ◌≤◌, ◌==◌, Bool, true, false, if◌then◌else◌, Option, None, Some, List, [], ◌∷◌, ◌++◌, length, map, get_or, take, refl, sym, ap₂, ◌∙◌, arith, option_map}
use Rattle.abel_vectors.proofs.Common.{range_with_len, ext_get_or, get_or-take, length-take-le, cons_option, Entry, Kind, APin, Context, name_at, Mark, input_char, output_char, given_to, first_char, char_given, view_mark, found_at, all_given, char_for, chars_for, chars_read, pin_of, position_gives, pulse_read, tests_pulse}
use Rattle.std.proofs.lemmas.List.FromFn.{get_or-map-range_with_len, length-map-range_with_len}
use Rattle.truth_tables.specs.declared.mark.Mark as code

-- ---- what is said of marks, by what they are seen as

pub chars_seen : (es : List Entry) (char : Bool → Mark → Option ℕ) (ss : List (Option ℕ)) (ms : List code.Mark) → chars_read es char ss ms ≡ chars_for es char ss (map view_mark ms)
chars_seen es char (s ∷ ss) (m ∷ ms) = rw (chars_seen es char ss ms) refl
chars_seen es char _ _ = refl

pub pulses_seen : (ss : List (Option ℕ)) (ms : List code.Mark) → pulse_read ss ms ≡ tests_pulse ss (map view_mark ms)
pulses_seen (s ∷ ss) (m ∷ ms) = rw (pulses_seen ss ms) refl
pulses_seen _ _ = refl

-- ---- the character of a pin

first_by : (b : Bool) (c : ℕ) (r s o : Option ℕ) → r ≡ first_char s o → (if b then Some c else r) ≡ first_char (if b then Some c else s) o
first_by true c r s o e = refl
first_by false c r s o e = e

found_append : (xs ys : List (ℕ × ℕ)) (p : ℕ) → found_at (xs ++ ys) p ≡ first_char (found_at xs p) (found_at ys p)
found_append [] ys p = refl
found_append (x ∷ xs) ys p = first_by (x.0 == p) x.1 (found_at (xs ++ ys) p) (found_at xs p) (found_at ys p) (found_append xs ys p)

-- what one position gives is found first
abbrev found_one : Option (ℕ × ℕ) → ℕ → Option ℕ
found_one None p = None
found_one (Some x) p = found_at (x ∷ []) p

found_more : (o : Option (ℕ × ℕ)) (xs : List (ℕ × ℕ)) (p : ℕ) → found_at (cons_option o xs) p ≡ first_char (found_one o p) (found_at xs p)
found_more None xs p = refl
found_more (Some x) xs p = found_append (x ∷ []) xs p

given_by : (b : Bool) → ◌≡◌ {A = Option ℕ} (if b then None else None) None
given_by true = refl
given_by false = refl

given_one : (pin : ℕ) (char : Bool → Mark → Option ℕ) (k : Kind) (m : Mark) → given_to pin char k m ≡ found_one (char_for (pin_of k) char m) pin
given_one pin char (APin other negated) m = given_pin other pin (char negated m)
  where
    given_pin : (p q : ℕ) (o : Option ℕ) → (if p == q then o else None) ≡ found_one (option_map (λ c. (p, c)) o) q
    given_pin p q None = given_by (p == q)
    given_pin p q (Some c) = refl
given_one pin char _ m = refl

given_found : (d : Context) (pin : ℕ) (char : Bool → Mark → Option ℕ) (ss : List (Option ℕ)) (ms : List Mark) → char_given d pin char ss ms ≡ found_at (chars_for d.names char ss ms) pin
given_found d pin char (None ∷ ss) (m ∷ ms) = given_found d pin char ss ms
given_found d pin char (Some s ∷ ss) (m ∷ ms) =
    ap₂ first_char (given_one pin char (name_at d s).kind m) (given_found d pin char ss ms)
    ∙ sym (found_more (position_gives d.names char (Some s) m) (chars_for d.names char ss ms) pin)
given_found d pin char _ _ = refl

pub all_found : (d : Context) (pin : ℕ) (ss : List (Option ℕ)) (given : List Mark) (ts : List (Option ℕ)) (tested : List Mark) → first_char (char_given d pin input_char ss given) (char_given d pin output_char ts tested) ≡ found_at (all_given d.names ss given ts tested) pin
all_found d pin ss given ts tested =
    ap₂ first_char (given_found d pin input_char ss given) (given_found d pin output_char ts tested)
    ∙ sym (found_append (chars_for d.names input_char ss given) (chars_for d.names output_char ts tested) pin)

-- ---- the characters of a vector

pub all_placed : (f : ℕ → ℕ) (chars : List ℕ) (pins : ℕ) → pins ≤ length chars → ((k : ℕ) → k < pins → get_or chars k 0 ≡ f (k + 1)) → take pins chars ≡ map f (range_with_len 1 pins)
all_placed f chars pins h placed =
    let taken : length (take pins chars) ≡ pins = length-take-le pins chars h in
    ext_get_or 0 (take pins chars) (map f (range_with_len 1 pins)) (taken ∙ sym (length-map-range_with_len f 1 pins))
    (λ i lt.
    let below : i < pins = omega arith in
    get_or-take pins chars i 0 below ∙ placed i below ∙ sym (get_or-map-range_with_len f 1 pins i (i + 1) 0 below (omega arith)))
