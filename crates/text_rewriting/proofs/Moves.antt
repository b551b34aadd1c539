-- The move of a text, by what is at its front.
use Rattle.std.proofs.Common.{◌≡◌, ◌+◌, ◌<◌, ◌≤◌, ℕ, suc, Bool, true, false, inl, inr, List, [], ◌∷◌, ◌++◌, Option, Some, None, length, take, drop, refl, sym, ap, ◌∙◌, arith, if◌then◌else◌, codes, ◌==◌, nat_lt}
use Rattle.text_rewriting.proofs.Common.{prefix_len, Vec, eqb-true, eq-eqb, ltb-true, bool_cases, quote, is_name_later, quoted_len, ◌>>=◌, given, before, starts_byte, rest_of, comment, string_len, word, arguments, replaced, standing_for, IsResult, names, texts, Tables, Macro, Move, Done, Rewritten, Refused, BadDirective, or_bad, macro_word, definition, called, named, directed, directive_of, behind_directive, token_len, move, before_drop, digits_in, plain_move, digits}

pub zero_takes_none : (v : ℕ) (w : List ℕ) → v ≡ 0 → (if v == 0 then [] else w) ≡ []
zero_takes_none v w e = ap (λ (b : Bool). if b then [] else w) (eq-eqb v 0 e)

some_same : {A : Type 0} {x y : A} → Some x ≡ Some y → x ≡ y
some_same {A} {x} {y} e = ap (λ (o : Option A). elim o [ Some z ↦ z | None ↦ x ]) e

not_true : (b : Bool) → (b ≡ true → ⊥) → b ≡ false
not_true true h = absurd (h refl)
not_true false h = refl

pub other_takes_all : (v : ℕ) (w : List ℕ) → (v ≡ 0 → ⊥) → (if v == 0 then [] else w) ≡ w
other_takes_all v w h = ap (λ (b : Bool). if b then [] else w) (not_true (v == 0) (λ e. h (eqb-true v 0 e)))

-- ---- calls

abbrev by_parameters : Macro → List ℕ → Option (List (List ℕ)) → Option (List ℕ × List ℕ)
by_parameters m behind o =
    elim o [
      | None ↦ Some (m.block, behind)
      | Some ps ↦ arguments behind >>= λ found. given (length found.0 == length ps) (replaced (standing_for ps found.0) 0 m.block, found.1)
    ]

abbrev by_arguments : Macro → List (List ℕ) → Option (List (List ℕ) × List ℕ) → Option (List ℕ × List ℕ)
by_arguments m ps o = o >>= λ found. given (length found.0 == length ps) (replaced (standing_for ps found.0) 0 m.block, found.1)

pub plain_called : (m : Macro) (behind w : List ℕ) → m.parameters ≡ None → w ≡ m.block → called m behind ≡ Some (w, behind)
plain_called m behind w p e = ap (by_parameters m behind) p ∙ ap (λ (v : List ℕ). Some (v, behind)) (sym e)

pub called_broken : (m : Macro) (behind : List ℕ) (ps : List (List ℕ)) → m.parameters ≡ Some ps → arguments behind ≡ None → called m behind ≡ None
called_broken m behind ps p e = ap (by_parameters m behind) p ∙ ap (by_arguments m ps) e

texts_length : (ws : List (Vec (List ℕ))) → length (texts ws) ≡ length ws
texts_length [] = refl
texts_length (w ∷ ws) = ap suc (texts_length ws)

names_length : (ws : List (Vec ℕ)) → length (names ws) ≡ length ws
names_length [] = refl
names_length (w ∷ ws) = ap suc (names_length ws)

module _ (m : Macro) (behind end : List ℕ) (ps : List (Vec ℕ)) (found : List (Vec (List ℕ))) (p : m.parameters ≡ Some (names ps)) (a : arguments behind ≡ Some (texts found, end)) where
  by_count : called m behind ≡ given (length (texts found) == length (names ps)) (replaced (standing_for (names ps) (texts found)) 0 m.block, end)
  by_count = ap (by_parameters m behind) p ∙ ap (by_arguments m (names ps)) a

  pub called_same : (w : List ℕ) → length found ≡ length ps → w ≡ m.block → called m behind ≡ Some (replaced (standing_for (names ps) (texts found)) 0 w, end)
  called_same w n e =
      let same : (length (texts found) == length (names ps)) ≡ true = eq-eqb (length (texts found)) (length (names ps)) (texts_length found ∙ n ∙ sym (names_length ps)) in
      by_count ∙ ap (λ (b : Bool). given b (replaced (standing_for (names ps) (texts found)) 0 m.block, end)) same
      ∙ ap (λ (v : List ℕ). Some (replaced (standing_for (names ps) (texts found)) 0 v, end)) (sym e)

  pub called_other : (length found ≡ length ps → ⊥) → called m behind ≡ None
  called_other n =
      let other : (length (texts found) == length (names ps)) ≡ false =
      not_true (length (texts found) == length (names ps)) (λ e. n (sym (texts_length found) ∙ eqb-true (length (texts found)) (length (names ps)) e ∙ names_length ps)) in
      by_count ∙ ap (λ (b : Bool). given b (replaced (standing_for (names ps) (texts found)) 0 m.block, end)) other

-- a macro that represents a name, as a call of it keeps it
pub called_macro : (t : Tables) (name : List ℕ) (m : Macro) (ps : List (List ℕ)) (w : List ℕ) → t.macros name ≡ Some m → m.parameters ≡ Some ps → w ≡ m.block → t.macros name ≡ Some (record { parameters = Some ps; block = w })
called_macro t name m ps w e p b = e ∙ ap (λ (o : Option (List (List ℕ))). Some (record { parameters = o; block = m.block })) p ∙ ap (λ (x : List ℕ). Some (record { parameters = Some ps; block = x })) (sym b)

-- the result of a call by what its name represents
pub result_of_call : (t : Tables) (name : List ℕ) (ps found : List (List ℕ)) (w result : List ℕ) → t.macros name ≡ Some (record { parameters = Some ps; block = w }) → result ≡ replaced (standing_for ps found) 0 w → IsResult t.macros name found result
result_of_call t name ps found w result e r =
    record {
      replaces = λ m qs f p.
          let same : m ≡ record { parameters = Some ps; block = w } = some_same (sym f ∙ e) in
          let named : ps ≡ qs = some_same (sym (ap (λ (x : Macro). x.parameters) same) ∙ p) in
          r ∙ ap (λ (x : List (List ℕ)). replaced (standing_for x found) 0 w) named ∙ ap (λ (x : Macro). replaced (standing_for qs found) 0 x.block) (sym same);
    }

pub call_result : (t : Tables) (name w result : List ℕ) (ps : List (Vec ℕ)) (found : List (Vec (List ℕ))) → t.macros name ≡ Some (record { parameters = Some (names ps); block = w }) → result ≡ replaced (standing_for (names ps) (texts found)) 0 w
    → IsResult t.macros name (texts found) result
call_result t name w result ps found e r = result_of_call t name (names ps) (texts found) w result e r

-- a result that was kept is that of the call
pub result_kept : (t : Tables) (name : List ℕ) (ps found : List (List ℕ)) (w result : List ℕ) → t.macros name ≡ Some (record { parameters = Some ps; block = w }) → IsResult t.macros name found result → result ≡ replaced (standing_for ps found) 0 w
result_kept t name ps found w result e r = r.replaces (record { parameters = Some ps; block = w }) ps e refl

-- ---- names

module _ (t : Tables) (text behind name : List ℕ) (n : name ≡ before text behind) where
  abbrev by_macro : Option Macro → Move
  by_macro o = elim o [ Some m ↦ or_bad (called m behind >>= λ r. Some (Rewritten r.0 r.1)) | None ↦ Done t (before text behind) behind ]

  abbrev by_word : Option (List ℕ) → Move
  by_word o = elim o [ Some past ↦ or_bad (definition t text (before text behind) past) | None ↦ by_macro (t.macros (before text behind)) ]

  pub named_definition : (past : List ℕ) (m : Move) → macro_word behind ≡ Some past → or_bad (definition t text name past) ≡ m → named t text behind ≡ m
  named_definition past m e d = ap by_word e ∙ ap (λ (w : List ℕ). or_bad (definition t text w past)) (sym n) ∙ d

  abbrev by_call : Option (List ℕ × List ℕ) → Move
  by_call o = or_bad (o >>= λ r. Some (Rewritten r.0 r.1))

  macro_named : (m : Macro) → macro_word behind ≡ None → t.macros name ≡ Some m → named t text behind ≡ by_call (called m behind)
  macro_named m e d = ap by_word e ∙ ap by_macro (ap t.macros (sym n) ∙ d)

  pub named_call : (m : Macro) (w end : List ℕ) → macro_word behind ≡ None → t.macros name ≡ Some m → called m behind ≡ Some (w, end) → named t text behind ≡ Rewritten w end
  named_call m w end e d c = macro_named m e d ∙ ap by_call c

  pub named_broken : (m : Macro) → macro_word behind ≡ None → t.macros name ≡ Some m → called m behind ≡ None → named t text behind ≡ Refused BadDirective
  named_broken m e d c = macro_named m e d ∙ ap by_call c

  pub named_word : macro_word behind ≡ None → t.macros name ≡ None → named t text behind ≡ Done t (before text behind) behind
  named_word e d = ap by_word e ∙ ap by_macro (ap t.macros (sym n) ∙ d)

-- ---- directives

one_more : (n b : ℕ) (bs : List ℕ) → drop (1 + n) (b ∷ bs) ≡ drop n bs
one_more n b bs = let e : 1 + n ≡ suc n = omega arith in ap (λ (k : ℕ). drop k (b ∷ bs)) e

module _ (w look : List ℕ) (count : ℕ) (s : starts_byte 64 w ≡ true) (l : look ≡ rest_of w) (c : count ≡ prefix_len is_name_later look) where
  counted : count ≡ prefix_len is_name_later (rest_of w)
  counted = c ∙ ap (prefix_len is_name_later) l

  pub directive_within : count ≤ length look → 1 + count ≤ length w
  directive_within h = within w s l
    where
      within : (v : List ℕ) → starts_byte 64 v ≡ true → look ≡ rest_of v → 1 + count ≤ length v
      within [] s l = absurd cc
      within (b ∷ bs) s l = omega (arith, h, ap length l)

  pub directive_behind : (v : List ℕ) → v ≡ drop (1 + count) w → v ≡ behind_directive w
  directive_behind v e = e ∙ stands w s ∙ ap (λ (k : ℕ). drop k (rest_of w)) counted
    where
      stands : (v : List ℕ) → starts_byte 64 v ≡ true → drop (1 + count) v ≡ drop count (rest_of v)
      stands [] s = absurd cc
      stands (b ∷ bs) s = one_more count b bs

  pub directive_word : (v : List ℕ) → count ≤ length look → v ≡ take (1 + count) w → v ≡ before w (behind_directive w)
  directive_word v h e = e ∙ sym (before_drop w (1 + count) (directive_within h)) ∙ ap (before w) (directive_behind (drop (1 + count) w) refl)

-- ---- words and other tokens

module _ (t : Tables) (w : List ℕ) where
  abbrev by_name : Option (List ℕ) → Move
  by_name o = elim o [ Some behind ↦ named t w behind | None ↦ Done t (take (token_len w) w) (drop (token_len w) w) ]

  pub word_moves : (behind : List ℕ) (m : Move) → word w ≡ Some behind → named t w behind ≡ m → plain_move t w ≡ m
  word_moves behind m e n = ap by_name e ∙ n

  pub token_moves : (n : ℕ) → word w ≡ None → n ≡ token_len w → n ≤ length w → plain_move t w ≡ Done t (before w (drop n w)) (drop n w)
  token_moves n e k h = ap by_name e ∙ ap (λ (i : ℕ). Done t (take i w) (drop i w)) (sym k) ∙ ap (λ (v : List ℕ). Done t v (drop n w)) (sym (before_drop w n h))

  -- ---- the first rule

  abbrev by_mark : Bool → Move
  by_mark b = elim b [ true ↦ directed (directive_of (before w (behind_directive w))) t w (behind_directive w) | false ↦ plain_move t w ]

  abbrev by_quote : Bool → Move
  by_quote b = elim b [ true ↦ Done t (take (string_len w) w) (drop (string_len w) w) | false ↦ by_mark (starts_byte 64 w) ]

  abbrev by_comment : Option (List ℕ) → Move
  by_comment o = elim o [ Some behind ↦ Done t (codes " ") behind | None ↦ by_quote (starts_byte quote w) ]

  pub comment_moves : (behind : List ℕ) → comment w ≡ Some behind → move t w ≡ Done t (codes " ") behind
  comment_moves behind e = ap by_comment e

  pub string_moves : (n : ℕ) → comment w ≡ None → true ≡ starts_byte 39 w → n ≡ string_len w → n ≤ length w → move t w ≡ Done t (before w (drop n w)) (drop n w)
  string_moves n e s k h =
      ap by_comment e ∙ ap by_quote (sym s) ∙ ap (λ (i : ℕ). Done t (take i w) (drop i w)) (sym k) ∙ ap (λ (v : List ℕ). Done t v (drop n w)) (sym (before_drop w n h))

  pub directive_moves : (m : Move) → comment w ≡ None → false ≡ starts_byte 39 w → true ≡ starts_byte 64 w
      → directed (directive_of (before w (behind_directive w))) t w (behind_directive w) ≡ m → move t w ≡ m
  directive_moves m e s d k = ap by_comment e ∙ ap by_quote (sym s) ∙ ap by_mark (sym d) ∙ k

  pub plain_moves : (m : Move) → comment w ≡ None → false ≡ starts_byte 39 w → false ≡ starts_byte 64 w → plain_move t w ≡ m → move t w ≡ m
  plain_moves m e s d k = ap by_comment e ∙ ap by_quote (sym s) ∙ ap by_mark (sym d) ∙ k

-- a string has a byte
some_of : (q n : ℕ) → 0 < n → 0 < (if nat_lt 0 q then q else n)
some_of q n h = elim (bool_cases (nat_lt 0 q)) [ inl t ↦ rw t (ltb-true 0 q t) | inr f ↦ rw f h ]

pub string_some : (w : List ℕ) (n : ℕ) → n ≡ string_len w → 0 < length w → 0 < n
string_some w n e h = let s = some_of (quoted_len w) (length w) h in omega (arith, e, s)

-- ---- values

pub digits_are : (radix value : ℕ) → digits radix value ≡ digits_in 32 radix value
unfolding digits
digits_are radix value = refl

pub value_moves : (o : Option (List ℕ × List ℕ)) (block end : List ℕ) (radix known value : ℕ) → o ≡ Some (block ++ digits_in 32 known value, end) → radix ≡ known
    → or_bad (o >>= λ r. Some (Rewritten r.0 r.1)) ≡ Rewritten (block ++ digits radix value) end
value_moves o block end radix known value e k =
    ap (λ (p : Option (List ℕ × List ℕ)). or_bad (p >>= λ r. Some (Rewritten r.0 r.1))) e ∙ ap (λ (w : List ℕ). Rewritten (block ++ w) end) (sym (ap (λ (r : ℕ). digits r value) k ∙ digits_are known value))
