-- The `@RADIX` form that is found at the front is the only one there.
use Rattle.std.proofs.Common.{◌≡◌, ℕ, zero, suc, ◌+◌, ◌≤◌, ◌<◌, inl, inr, Bool, true, false, cond, ltb, List, [], ◌∷◌, ◌++◌, length, take, drop, Option, None, Some, refl, sym, ap, subst, ◌∙◌, arith, append_assoc, length-append, ◌==◌, ◌&&◌, ◌||◌, codes, option_map}
use Rattle.abel_lexer.proofs.Common.{list_all, prefix_len, is_in_range, str_eq_ignore_ascii_case, is_ascii_digit, is_ascii_alphanumeric, eqb-true, ltb-true, ltb-false, take_at, drop_at, take-append-drop, length-take, caret, is_blank, is_radix_letter, starts, number_value, is_good_number, is_radix, IsShaped, IsToken, number_head, marked_head, shaped_end, shaped_len, larger, number_len, behind_blanks, behind_radix_word, known_radix, behind_semicolon, radix_set, radix_at, IsRadixForm}
use Rattle.std.specs.Option.{option_and_then}
use Rattle.std.proofs.lemmas.Option.{option_and_then_some}
use Rattle.abel_lexer.specs.declared.token.TokenKind.TheVariants as kind
use Rattle.abel_lexer.proofs.Blanks.{gap_of, gap_is}
use Rattle.abel_lexer.proofs.Booleans.{bool_cases, and_parts, and_both, or_cases}
use Rattle.abel_lexer.proofs.FirstBytes.{begins_dark, in_range, not_blank, differs}
use Rattle.abel_lexer.proofs.Longest.{numbers}
use Rattle.abel_lexer.proofs.Munches.{same_length, prefix_passes, shape_ends}

-- a text of fewer than six bytes does not begin with `@RADIX`
pub short_word : (ts : List ℕ) → length ts < 6 → str_eq_ignore_ascii_case (codes "@RADIX") (take 6 ts) ≡ true → ⊥
short_word ts lt e = omega (arith, same_length (codes "@RADIX") (take 6 ts) e, length-take 6 ts)

-- ---- the end of a number

-- a letter or digit is no blank
alphanumeric_from : (b : ℕ) → is_ascii_alphanumeric b ≡ true → 48 ≤ b
alphanumeric_from b e =
    elim (or_cases _ (is_in_range 97 122 b) e) [
      | inl d ↦ elim (or_cases (is_in_range 48 57 b) (is_in_range 65 90 b) d) [ inl r ↦ (in_range 48 57 b r).0 | inr r ↦ omega (arith, (in_range 65 90 b r).0) ]
      | inr r ↦ omega (arith, (in_range 97 122 b r).0)
    ]

-- what begins with a blank or with `;` begins with no letter or digit
no_digit : (gap rest : List ℕ) → list_all is_blank gap ≡ true → starts is_ascii_alphanumeric (gap ++ 59 ∷ rest) ≡ false
no_digit [] rest h = refl
no_digit (b ∷ gap) rest h =
    elim (bool_cases (is_ascii_alphanumeric b)) [
      | inl e ↦ absurd (
          let dark : is_blank b ≡ false = not_blank b (omega (arith, alphanumeric_from b e)) in
          let never : true ≡ false = sym (and_parts (is_blank b) (list_all is_blank gap) h).0 ∙ dark in
          cc
          )
      | inr e ↦ e
    ]

larger_first : (a : ℕ) → larger a 0 ≡ a
larger_first a = elim (bool_cases (ltb a 0)) [ inl e ↦ absurd (let lt = ltb-true a 0 e in omega arith) | inr e ↦ rw e refl ]

larger_second : (b : ℕ) → larger 0 b ≡ b
larger_second b = elim (bool_cases (ltb 0 b)) [ inl e ↦ rw e refl | inr e ↦ rw e (omega (arith, ltb-false 0 b e)) ]

-- a number before what is no letter or digit is the number at the front
number_ends : (w rest : List ℕ) → IsToken kind.Number w → starts is_ascii_alphanumeric rest ≡ false → number_len (w ++ rest) ≡ length w
number_ends [] rest (inl h) s = absurd h
number_ends [] rest (inr h) s = absurd h
number_ends (b ∷ w) rest (inl h) s =
    let unmarked : shaped_len marked_head is_ascii_alphanumeric ((b ∷ w) ++ rest) ≡ 0 = rw (differs is_ascii_digit caret b refl h.0) refl in
    let long : shaped_len number_head is_ascii_alphanumeric ((b ∷ w) ++ rest) ≡ length (b ∷ w) = shape_ends is_ascii_alphanumeric number_head (b ∷ w) rest h s in
    ap (λ (n : ℕ). larger (shaped_len number_head is_ascii_alphanumeric ((b ∷ w) ++ rest)) n) unmarked ∙ larger_first _ ∙ long
number_ends (b ∷ w) rest (inr h) s =
    let plain : shaped_len number_head is_ascii_alphanumeric ((b ∷ w) ++ rest) ≡ 0 = rw (eqb-true b caret h.0) refl in
    let long : shaped_len marked_head is_ascii_alphanumeric ((b ∷ w) ++ rest) ≡ length (b ∷ w) = shape_ends is_ascii_alphanumeric marked_head (b ∷ w) rest h s in
    ap (λ (n : ℕ). larger n (shaped_len marked_head is_ascii_alphanumeric ((b ∷ w) ++ rest))) plain ∙ larger_second _ ∙ long

-- ---- a form that is at the front is found

-- a form begins with its word
pub form_begins : (radix : ℕ) (w rest : List ℕ) (n : ℕ) (f : IsRadixForm radix w n) → f.word ++ ((f.gap ++ (f.number ++ (f.gap_behind ++ codes ";"))) ++ rest) ≡ w ++ rest
form_begins radix w rest n f = sym (ap (λ (z : List ℕ). z ++ rest) f.parts ∙ append_assoc f.word (f.gap ++ (f.number ++ (f.gap_behind ++ codes ";"))) rest)

-- a form has bytes
pub form_some : (radix : ℕ) (w : List ℕ) (n : ℕ) → IsRadixForm radix w n → 0 < length w
form_some radix w n f =
    omega (arith, ap length f.parts, length-append f.word (f.gap ++ (f.number ++ (f.gap_behind ++ codes ";"))), same_length (codes "@RADIX") f.word f.directive)

-- its parts after the word, each before all that follows it
nested : (gap number behind rest : List ℕ) → (gap ++ (number ++ (behind ++ codes ";"))) ++ rest ≡ gap ++ (number ++ (behind ++ 59 ∷ rest))
nested gap number behind rest =
    append_assoc gap (number ++ (behind ++ codes ";")) rest
    ∙ ap (λ (z : List ℕ). gap ++ z) (append_assoc number (behind ++ codes ";") rest ∙ ap (λ (z : List ℕ). number ++ z) (append_assoc behind (codes ";") rest))

word_found : (text word rest : List ℕ) → text ≡ word ++ rest → str_eq_ignore_ascii_case (codes "@RADIX") word ≡ true → behind_radix_word text ≡ Some rest
unfolding behind_radix_word
word_found text word rest e d =
    let six : length word ≡ 6 = sym (same_length (codes "@RADIX") word d) in
    let front : take 6 text ≡ word = ap (take 6) e ∙ take_at word rest 6 six in
    let back : drop 6 text ≡ rest = ap (drop 6) e ∙ drop_at word rest 6 six in
    let test : str_eq_ignore_ascii_case (codes "@RADIX") (take 6 text) ≡ true = ap (str_eq_ignore_ascii_case (codes "@RADIX")) front ∙ d in
    rw test (ap Some back)

radix_known : (radix n : ℕ) (number : List ℕ) → is_good_number radix number ≡ true → n ≡ number_value radix number → is_radix n ≡ true → known_radix radix number ≡ Some n
unfolding known_radix
radix_known radix n number g s k =
    let known : is_radix (number_value radix number) ≡ true = subst (λ (m : ℕ). is_radix m ≡ true) s k in
    rw (and_both _ _ g known) (ap Some (sym s))

semicolon_found : (rest : List ℕ) → behind_semicolon (59 ∷ rest) ≡ Some rest
semicolon_found rest = refl

set_found : (radix n : ℕ) (number gap rest : List ℕ) → IsToken kind.Number number → list_all is_blank gap ≡ true → is_good_number radix number ≡ true
    → n ≡ number_value radix number → is_radix n ≡ true → radix_set radix (number ++ (gap ++ 59 ∷ rest)) ≡ Some (n, rest)
unfolding radix_set
set_found radix n number gap rest t b g s k =
    let text : List ℕ = number ++ (gap ++ 59 ∷ rest) in
    let long : number_len text ≡ length number = number_ends number (gap ++ 59 ∷ rest) t (no_digit gap rest b) in
    let front : take (number_len text) text ≡ number = take_at number (gap ++ 59 ∷ rest) (number_len text) (sym long) in
    let back : drop (number_len text) text ≡ gap ++ 59 ∷ rest = drop_at number (gap ++ 59 ∷ rest) (number_len text) (sym long) in
    let behind : behind_blanks (drop (number_len text) text) ≡ 59 ∷ rest = ap behind_blanks back ∙ sym (gap_is (gap ++ 59 ∷ rest) gap (59 ∷ rest) refl b refl).1 in
    let known : known_radix radix (take (number_len text) text) ≡ Some n = ap (known_radix radix) front ∙ radix_known radix n number g s k in
    let end : behind_semicolon (behind_blanks (drop (number_len text) text)) ≡ Some rest = ap behind_semicolon behind in
    ap (option_and_then (λ m. option_map (λ r. (m, r)) (behind_semicolon (behind_blanks (drop (number_len text) text))))) known
    ∙ ap (option_map (λ r. (n, r))) end

pub found_form : (radix : ℕ) (text w rest : List ℕ) (n : ℕ) → text ≡ w ++ rest → IsRadixForm radix w n → radix_at radix text ≡ Some (n, rest)
unfolding radix_at
found_form radix text w rest n e f =
    let behind : List ℕ = f.number ++ (f.gap_behind ++ 59 ∷ rest) in
    let parts : text ≡ f.word ++ (f.gap ++ behind) = e ∙ sym (form_begins radix w rest n f) ∙ ap (λ (z : List ℕ). f.word ++ z) (nested f.gap f.number f.gap_behind rest) in
    let word : behind_radix_word text ≡ Some (f.gap ++ behind) = word_found text f.word (f.gap ++ behind) parts f.directive in
    let number : behind_blanks (f.gap ++ behind) ≡ behind =
    sym (gap_is (f.gap ++ behind) f.gap behind refl f.blank (begins_dark kind.Number f.number (f.gap_behind ++ 59 ∷ rest) f.token)).1 in
    ap (option_and_then (λ b. radix_set radix (behind_blanks b))) word ∙ ap (radix_set radix) number
    ∙ set_found radix n f.number f.gap_behind rest f.token f.blank_behind f.good f.says f.known

-- ---- what is found is a form

-- what a number and a `;` at the front set
record IsSet (radix : ℕ) (ts : List ℕ) (n : ℕ) (rest : List ℕ) : Type 0 where
  good : is_good_number radix (take (number_len ts) ts) ≡ true
  says : n ≡ number_value radix (take (number_len ts) ts)
  known : is_radix n ≡ true
  behind : behind_blanks (drop (number_len ts) ts) ≡ 59 ∷ rest

pub unwrapped : {A : Type 0} {x y : A} → Some x ≡ Some y → x ≡ y
unwrapped e = cc

known_says : (radix n : ℕ) (number : List ℕ) → known_radix radix number ≡ Some n → (is_good_number radix number ≡ true) × (n ≡ number_value radix number) × (is_radix n ≡ true)
unfolding known_radix
known_says radix n number e =
    elim (bool_cases (is_good_number radix number && is_radix (number_value radix number))) [
      | inl t ↦
          let p = and_parts _ _ t in
          let is : Some (number_value radix number) ≡ Some n = sym (rw t refl) ∙ e in
          let same : number_value radix number ≡ n = unwrapped is in
          (p.0, sym same, subst (λ (m : ℕ). is_radix m ≡ true) same p.1)
      | inr f ↦ absurd (let none : None ≡ Some n = sym (rw f refl) ∙ e in cc)
    ]

semicolon_says : (ts rest : List ℕ) → behind_semicolon ts ≡ Some rest → ts ≡ 59 ∷ rest
semicolon_says [] rest e = absurd cc
semicolon_says (b ∷ bs) rest e =
    elim (bool_cases (b == 59)) [
      | inl t ↦
          let is : Some bs ≡ Some rest = sym (rw t refl) ∙ e in
          let same : bs ≡ rest = cc in
          ap (λ (z : ℕ). z ∷ bs) (eqb-true b 59 t) ∙ ap (λ (z : List ℕ). 59 ∷ z) same
      | inr f ↦ absurd (let none : None ≡ Some rest = sym (rw f refl) ∙ e in cc)
    ]

set_says : (radix n : ℕ) (ts rest : List ℕ) → radix_set radix ts ≡ Some (n, rest) → IsSet radix ts n rest
unfolding radix_set
set_says radix n ts rest e =
    option_and_then_some _ (known_radix radix (take (number_len ts) ts)) (n, rest) e (λ m k s.
    mapped (behind_semicolon (behind_blanks (drop (number_len ts) ts))) m n rest s (λ same found.
    let p = known_says radix m (take (number_len ts) ts) k in
    record {
      good = p.0;
      says = sym same ∙ p.1;
      known = subst (λ (z : ℕ). is_radix z ≡ true) same p.2;
      behind = semicolon_says _ rest found;
    }
    ))
  where
    mapped : {P : Type 0} (o : Option (List ℕ)) (m n : ℕ) (rest : List ℕ) → option_map {U = ℕ × List ℕ} (λ r. (m, r)) o ≡ Some (n, rest) → (m ≡ n → o ≡ Some rest → P) → P
    mapped None m n rest e go = absurd cc
    mapped (Some r) m n rest e go = let both : (m, r) ≡ (n, rest) = unwrapped e in go (ap (λ (p : ℕ × List ℕ). p.0) both) (ap (λ (p : ℕ × List ℕ). Some p.1) both)

-- a number that says a radix has a digit
some_digit : (radix : ℕ) (ts : List ℕ) → is_radix (number_value radix (take (number_len ts) ts)) ≡ true → 0 < number_len ts
some_digit radix ts k = from_number (number_len ts) k
  where
    from_number : (n : ℕ) → is_radix (number_value radix (take n ts)) ≡ true → 0 < n
    from_number zero k = absurd cc
    from_number (suc n) k = omega arith

pub form_found : (radix : ℕ) (text rest : List ℕ) (n : ℕ) → radix_at radix text ≡ Some (n, rest) → (w : List ℕ) × (text ≡ w ++ rest) × IsRadixForm radix w n
unfolding radix_at behind_radix_word
form_found radix text rest n e =
    elim (bool_cases (str_eq_ignore_ascii_case (codes "@RADIX") (take 6 text))) [
      | inl d ↦
          let past : radix_set radix (behind_blanks (drop 6 text)) ≡ Some (n, rest) = sym (rw d refl) ∙ e in
          let s = set_says radix n (behind_blanks (drop 6 text)) rest past in
          built d s
      | inr f ↦ absurd (let none : None ≡ Some (n, rest) = sym (rw f refl) ∙ e in cc)
    ]
  where
    built : str_eq_ignore_ascii_case (codes "@RADIX") (take 6 text) ≡ true → IsSet radix (behind_blanks (drop 6 text)) n rest → (w : List ℕ) × (text ≡ w ++ rest) × IsRadixForm radix w n
    built d s =
        let word : List ℕ = take 6 text in
        let behind : List ℕ = behind_blanks (drop 6 text) in
        let number : List ℕ = take (number_len behind) behind in
        let past : List ℕ = drop (number_len behind) behind in
        let w : List ℕ = word ++ (gap_of (drop 6 text) ++ (number ++ (gap_of past ++ codes ";"))) in
        let last : past ≡ gap_of past ++ 59 ∷ rest = sym (take-append-drop (prefix_len is_blank past) past) ∙ ap (λ (z : List ℕ). gap_of past ++ z) s.behind in
        let middle : behind ≡ number ++ (gap_of past ++ 59 ∷ rest) = sym (take-append-drop (number_len behind) behind) ∙ ap (λ (z : List ℕ). number ++ z) last in
        let first : drop 6 text ≡ gap_of (drop 6 text) ++ (number ++ (gap_of past ++ 59 ∷ rest)) =
        sym (take-append-drop (prefix_len is_blank (drop 6 text)) (drop 6 text)) ∙ ap (λ (z : List ℕ). gap_of (drop 6 text) ++ z) middle in
        let whole : text ≡ word ++ (gap_of (drop 6 text) ++ (number ++ (gap_of past ++ 59 ∷ rest))) = sym (take-append-drop 6 text) ∙ ap (λ (z : List ℕ). word ++ z) first in
        let parts : text ≡ w ++ rest =
        whole ∙ ap (λ (z : List ℕ). word ++ z) (sym (nested (gap_of (drop 6 text)) number (gap_of past) rest)) ∙ sym (append_assoc word (gap_of (drop 6 text) ++ (number ++ (gap_of past ++ codes ";"))) rest) in (
          w,
          parts,
          record {
            word = word;
            gap = gap_of (drop 6 text);
            number = number;
            gap_behind = gap_of past;
            parts = refl;
            directive = d;
            blank = prefix_passes is_blank (drop 6 text);
            token = numbers.token behind (some_digit radix behind (subst (λ (z : ℕ). is_radix z ≡ true) s.says s.known));
            blank_behind = prefix_passes is_blank past;
            good = s.good;
            says = s.says;
            known = s.known;
          },
        )
