-- The words of a string, one more, and the pieces that a text is split into.
use Rattle.std.proofs.Common.{◌≡◌, ℕ, ◌+◌, ◌-◌, ◌==◌, nat_lt, Bool, true, false, not, ◌||◌, List, [], ◌∷◌, ◌++◌, map, filter, length, take, drop, refl, sym, ap, ap₂, ◌∙◌, arith, cond, codes}
use Rattle.decls.proofs.Common.{nat_tests, list_any-append, slice_split, onto_first, str_to_ascii_lowercase, bytes_eq, said_by_either, parts_words, words_of, has_word, said_words, StringWords, has_unknown, known_words, view_said, lower_words, Tells}
use Rattle.std.specs.Char.{to_ascii_lowercase}

or_mixed : (a b c d : Bool) → ((a || c) || (b || d)) ≡ ((a || b) || (c || d))
or_mixed true b c d = refl
or_mixed false true true d = refl
or_mixed false false true d = refl
or_mixed false true false d = refl
or_mixed false false false d = refl

-- what one word more says
pub said_push : (ws : List (List ℕ)) (w : List ℕ) → said_words (ws ++ w ∷ []) ≡ said_by_either (said_words ws) (said_words (w ∷ []))
said_push ws w =
    let at = λ (k : List ℕ). list_any-append (bytes_eq k) ws (w ∷ []) in
    let reg : (has_word (ws ++ w ∷ []) (codes "reg") || has_word (ws ++ w ∷ []) (codes "reg_d")) ≡ ((has_word ws (codes "reg") || has_word ws (codes "reg_d")) || (has_word (w ∷ []) (codes "reg") || has_word (w ∷ []) (codes "reg_d"))) =
    ap₂ (λ a b. a || b) (at (codes "reg")) (at (codes "reg_d")) ∙ or_mixed (has_word ws (codes "reg")) (has_word ws (codes "reg_d")) (has_word (w ∷ []) (codes "reg")) (has_word (w ∷ []) (codes "reg_d")) in
    rw (at (codes "com"), reg, at (codes "buffer"), at (codes "invert"), at (codes "dc")) refl

or_false : (a : Bool) → (a || false) ≡ a
or_false true = refl
or_false false = refl

pub unknown_push : (ws : List (List ℕ)) (w : List ℕ) → has_unknown (ws ++ w ∷ []) ≡ (has_unknown ws || not (has_word known_words w))
unknown_push ws w = list_any-append (λ v. not (has_word known_words v)) ws (w ∷ []) ∙ ap (λ b. has_unknown ws || b) (or_false (not (has_word known_words w)))

-- ---- pieces

is_longer : (c : ℕ) (cs : List ℕ) → (length (c ∷ cs) == 0) ≡ false
is_longer c cs = grind (arith, nat_tests)

-- a piece that isn't empty stays
stays : (c : ℕ) (cs : List ℕ) (ps : List (List ℕ)) → filter (λ w. not (length w == 0)) ((c ∷ cs) ∷ ps) ≡ (c ∷ cs) ∷ filter (λ w. not (length w == 0)) ps
stays c cs ps = ap (λ b. cond (not b) ((c ∷ cs) ∷ filter (λ w. not (length w == 0)) ps) (filter (λ w. not (length w == 0)) ps)) (is_longer c cs)

filter_push : (ps : List (List ℕ)) (p : List ℕ) → lower_words (ps ++ p ∷ []) ≡ lower_words ps ++ lower_words (p ∷ [])
filter_push [] p = refl
filter_push ([] ∷ ps) p = filter_push ps p
filter_push ((c ∷ cs) ∷ ps) p =
    ap (map str_to_ascii_lowercase) (stays c cs (ps ++ p ∷ []))
    ∙ (ap (λ l. str_to_ascii_lowercase (c ∷ cs) ∷ l) (filter_push ps p) ∙ ap (λ l. map str_to_ascii_lowercase l ++ lower_words (p ∷ [])) (sym (stays c cs ps)))

-- an empty piece is no word, another is one
pub no_word : (ps : List (List ℕ)) → lower_words (ps ++ [] ∷ []) ≡ lower_words ps ++ []
no_word ps = filter_push ps []

pub one_word : (ps : List (List ℕ)) (c : ℕ) (cs : List ℕ) → lower_words (ps ++ (c ∷ cs) ∷ []) ≡ lower_words ps ++ str_to_ascii_lowercase (c ∷ cs) ∷ []
one_word ps c cs = filter_push ps (c ∷ cs) ∙ ap (λ l. lower_words ps ++ map str_to_ascii_lowercase l) (stays c cs [])

-- ---- splitting before or after the change of case

small : (c : ℕ) (a b : Bool) → nat_lt c 65 ≡ a → nat_lt c 91 ≡ b → parts_words (cond a c (cond b (c + 32) c)) ≡ parts_words c
small c true b e f = refl
small c false true e f = grind (arith, nat_tests)
small c false false e f = refl

lower_parts : (c : ℕ) → parts_words (to_ascii_lowercase c) ≡ parts_words c
lower_parts c = small c (nat_lt c 65) (nat_lt c 91) refl refl

onto_lower : (x : ℕ) (ps : List (List ℕ)) → onto_first (to_ascii_lowercase x) (map str_to_ascii_lowercase ps) ≡ map str_to_ascii_lowercase (onto_first x ps)
onto_lower x [] = refl
onto_lower x (p ∷ ps) = refl

split_by : (b : Bool) (x : ℕ) (ps qs : List (List ℕ)) → qs ≡ map str_to_ascii_lowercase ps → cond b ([] ∷ qs) (onto_first (to_ascii_lowercase x) qs) ≡ map str_to_ascii_lowercase (cond b ([] ∷ ps) (onto_first x ps))
split_by true x ps qs e = ap (λ l. [] ∷ l) e
split_by false x ps qs e = ap (onto_first (to_ascii_lowercase x)) e ∙ onto_lower x ps

split_lower : (xs : List ℕ) → slice_split parts_words (str_to_ascii_lowercase xs) ≡ map str_to_ascii_lowercase (slice_split parts_words xs)
split_lower [] = refl
split_lower (x ∷ xs) =
    ap (λ b. cond b ([] ∷ slice_split parts_words (str_to_ascii_lowercase xs)) (onto_first (to_ascii_lowercase x) (slice_split parts_words (str_to_ascii_lowercase xs)))) (lower_parts x)
    ∙ split_by (parts_words x) x (slice_split parts_words xs) (slice_split parts_words (str_to_ascii_lowercase xs)) (split_lower xs)

filter_lower : (ps : List (List ℕ)) → filter (λ w. not (length w == 0)) (map str_to_ascii_lowercase ps) ≡ lower_words ps
filter_lower [] = refl
filter_lower ([] ∷ ps) = filter_lower ps
filter_lower ((c ∷ cs) ∷ ps) =
    stays (to_ascii_lowercase c) (str_to_ascii_lowercase cs) (map str_to_ascii_lowercase ps)
    ∙ (ap (λ l. str_to_ascii_lowercase (c ∷ cs) ∷ l) (filter_lower ps) ∙ ap (map str_to_ascii_lowercase) (sym (stays c cs ps)))

-- the words of a string are its pieces in lower case
pub pieces_are_words : (text : List ℕ) (inner : List ℕ) → inner ≡ drop 1 (take (length text - 1) text) → lower_words (slice_split parts_words inner) ≡ words_of text
pieces_are_words text inner e =
    ap (λ x. lower_words (slice_split parts_words x)) e
    ∙ sym (ap (filter (λ w. not (length w == 0))) (split_lower (drop 1 (take (length text - 1) text))) ∙ filter_lower (slice_split parts_words (drop 1 (take (length text - 1) text))))

-- ---- what is reported

pub tells_more : (w n : StringWords) (ws : List (List ℕ)) (x : List ℕ) → view_said n.said ≡ said_by_either (view_said w.said) (said_words (x ∷ [])) → n.unknown ≡ (w.unknown || not (has_word known_words x)) → Tells w ws → Tells n (ws ++ x ∷ [])
tells_more w n ws x e f h = record {
  said = e ∙ (ap (λ s. said_by_either s (said_words (x ∷ []))) h.said ∙ sym (said_push ws x));
  unknown = f ∙ (ap (λ b. b || not (has_word known_words x)) h.unknown ∙ sym (unknown_push ws x));
}
