-- What a turn makes of a plain piece, and of a blank.
use Rattle.std.proofs.Common.{◌≡◌, ℕ, ◌-◌, ◌<◌, inl, inr, Bool, true, false, List, [], ◌∷◌, ◌++◌, length, take, drop, Option, Some, None, refl, sym, ap, subst, ◌∙◌, arith, length-append, lt-ltb, ltb-false, ◌==◌, ◌&&◌, ◌||◌, nat_lt, codes, if◌then◌else◌}
use Rattle.decompiled.proofs.Common.{list_all, take_at, drop_at, cases_Bool, eqb-true, or_cases, true≢false, TokenKind, note_mark, slash, quote, is_blank, is_name_first, is_name_later, word_head, larger, longest_at, longest_word, quoted_len, shaped_len, given, starts_byte, before, comment, gap, string_len, behind_some, Move, Done, move, directed, directive_of, behind_directive, token_len, macro_word, nothing_defined, is_marked, is_word_kind, is_text_kind}
use Rattle.abel_lexer.proofs.Booleans.{neither}
use Rattle.abel_macros.specs.Gaps.{word}
use Rattle.abel_macros.specs.Rules.{named}
use Rattle.decompiled.proofs.Tokens.{is_token, text_length, word_length, word_of_kind, text_of_kind, no_word}

-- ---- parts

pub before_is : (w behind : List ℕ) → before (w ++ behind) behind ≡ w
before_is w behind =
    let n : length (w ++ behind) - length behind ≡ length w = omega (arith, length-append w behind) in
    ap (λ (i : ℕ). take i (w ++ behind)) n ∙ take_at w behind (length w) refl

some_behind : (w behind : List ℕ) (n : ℕ) → n ≡ length w → 0 < n → behind_some n (w ++ behind) ≡ Some behind
some_behind w behind n e some =
    ap (λ (b : Bool). given b (drop n (w ++ behind))) (lt-ltb 0 n some) ∙ ap Some (ap (λ (i : ℕ). drop i (w ++ behind)) e ∙ drop_at w behind (length w) refl)

-- ---- blanks

-- no comment, directive, string or name begins there, and the token is one byte
abbrev IsCopied : List ℕ → ℕ → List ℕ → Type 0
IsCopied text b behind = move nothing_defined text ≡ Done nothing_defined (b ∷ []) behind

copied_tab : (rest : List ℕ) → IsCopied (9 ∷ rest) 9 rest
unfolding longest_at longest_word
copied_tab rest = refl

copied_feed : (rest : List ℕ) → IsCopied (10 ∷ rest) 10 rest
unfolding longest_at longest_word
copied_feed rest = refl

copied_form : (rest : List ℕ) → IsCopied (12 ∷ rest) 12 rest
unfolding longest_at longest_word
copied_form rest = refl

copied_return : (rest : List ℕ) → IsCopied (13 ∷ rest) 13 rest
unfolding longest_at longest_word
copied_return rest = refl

copied_end : (rest : List ℕ) → IsCopied (26 ∷ rest) 26 rest
unfolding longest_at longest_word
copied_end rest = refl

copied_space : (rest : List ℕ) → IsCopied (32 ∷ rest) 32 rest
unfolding longest_at longest_word
copied_space rest = refl

-- what holds of each blank
blank_is : (P : ℕ → Type 0) (b : ℕ) → P 9 → P 10 → P 12 → P 13 → P 26 → P 32 → is_blank b ≡ true → P b
blank_is P b tab feed form back end space e =
    let at : (n : ℕ) → P n → (b == n) ≡ true → P b = λ n p d. subst P (sym (eqb-true b n d)) p in
    elim (or_cases _ (b == 32) e) [
      | inl e1 ↦ elim (or_cases _ (b == 26) e1) [
        | inl e2 ↦ elim (or_cases _ (b == 13) e2) [
          | inl e3 ↦ elim (or_cases _ (b == 12) e3) [
            | inl e4 ↦ elim (or_cases (b == 9) (b == 10) e4) [ inl d ↦ at 9 tab d | inr d ↦ at 10 feed d ]
            | inr d ↦ at 12 form d
          ]
          | inr d ↦ at 13 back d
        ]
        | inr d ↦ at 26 end d
      ]
      | inr d ↦ at 32 space d
    ]

pub blank_turn : (b : ℕ) (rest : List ℕ) → is_blank b ≡ true → IsCopied (b ∷ rest) b rest
blank_turn b rest e =
    blank_is (λ c. IsCopied (c ∷ rest) c rest) b (copied_tab rest) (copied_feed rest) (copied_form rest) (copied_return rest) (copied_end rest) (copied_space rest) e

-- blanks at the front of a gap are passed
blank_gap : (b : ℕ) (rest : List ℕ) → is_blank b ≡ true → gap (b ∷ rest) ≡ gap rest
blank_gap b rest e = blank_is (λ c. gap (c ∷ rest) ≡ gap rest) b refl refl refl refl refl refl e

pub gap_behind : (g rest : List ℕ) → list_all is_blank g ≡ true → gap (g ++ rest) ≡ gap rest
gap_behind [] rest e = refl
gap_behind (b ∷ g) rest e =
    elim (cases_Bool (is_blank b)) [
      | inl d ↦ blank_gap b (g ++ rest) d ∙ gap_behind g rest (subst (λ (t : Bool). (t && list_all is_blank g) ≡ true) d e)
      | inr d ↦ absurd (true≢false (sym e ∙ ap (λ (t : Bool). t && list_all is_blank g) d))
    ]

-- ---- what is no blank and begins no comment

module _ (b : ℕ) (bs : List ℕ) (unmarked : is_marked b ≡ false) where
  marks : ((b == note_mark) ≡ false) × ((b == slash) ≡ false) × ((b == 64) ≡ false)
  marks =
      let p = neither (b == note_mark || b == slash) (b == 64) unmarked in
      let q = neither (b == note_mark) (b == slash) p.0 in
      (q.0, q.1, p.1)

  no_comment : comment (b ∷ bs) ≡ None
  no_comment = rw marks.0 (rw marks.1 refl)

  no_directive : starts_byte 64 (b ∷ bs) ≡ false
  no_directive = marks.2

  pub no_gap : is_blank b ≡ false → gap (b ∷ bs) ≡ b ∷ bs
  no_gap dark =
      elim (cases_Bool (b == quote)) [
        | inl q ↦ rw dark (rw q refl)
        | inr q ↦ rw dark (rw q (rw marks.0 (rw marks.1 refl)))
      ]

-- ---- a piece

-- a token at the front is done whole
done_whole : (w behind : List ℕ) (n : ℕ) → n ≡ length w → Done nothing_defined (take n (w ++ behind)) (drop n (w ++ behind)) ≡ Done nothing_defined w behind
done_whole w behind n e =
    ap (λ (i : ℕ). Done nothing_defined (take i (w ++ behind)) (drop i (w ++ behind))) e
    ∙ ap (λ (v : List ℕ). Done nothing_defined v (drop (length w) (w ++ behind))) (take_at w behind (length w) refl)
    ∙ ap (Done nothing_defined w) (drop_at w behind (length w) refl)

larger_one : (n : ℕ) → 0 < n → larger 1 n ≡ n
larger_one n some = elim (cases_Bool (nat_lt 1 n)) [
  | inl e ↦ rw e refl
  | inr e ↦ rw e (let le = ltb-false 1 n e in omega arith)
]

module _ (k : TokenKind) (b : ℕ) (bs behind : List ℕ) (unmarked : is_marked b ≡ false)
    (first : is_name_first b ≡ is_word_kind k) (quoted : (b == quote) ≡ is_text_kind k) (apart : longest_at (b ∷ bs ++ behind) ≡ (k, length (b ∷ bs))) where
  abbrev w : List ℕ
  w = b ∷ bs

  abbrev ts : List ℕ
  ts = b ∷ bs ++ behind

  some : 0 < length w
  some = omega arith

  string_length : is_text_kind k ≡ true → string_len ts ≡ length w
  string_length is =
      let n : quoted_len ts ≡ length w = text_length k w behind some apart (text_of_kind k w is (is_token k w behind some apart)) in
      let positive : nat_lt 0 (quoted_len ts) ≡ true = lt-ltb 0 (quoted_len ts) (omega (arith, n)) in
      ap (λ (t : Bool). if t then quoted_len ts else length ts) positive ∙ n

  pub word_read : is_word_kind k ≡ true → word ts ≡ Some behind
  word_read is =
      let n = word_length k w behind some apart (word_of_kind k w is (is_token k w behind some apart)) in
      some_behind w behind (shaped_len word_head is_name_later ts) n (omega (arith, n))

  pub no_word_read : is_word_kind k ≡ false → word ts ≡ None
  no_word_read is = ap (λ (n : ℕ). behind_some n ts) (no_word b (bs ++ behind) (first ∙ is))

  -- so it is named
  named_whole : macro_word behind ≡ None → named nothing_defined ts behind ≡ Done nothing_defined w behind
  named_whole none = rw (none, named) (ap (λ (v : List ℕ). Done nothing_defined v behind) (before_is w behind))

  token_length : token_len ts ≡ length w
  token_length = ap (λ (a : TokenKind × ℕ). larger 1 a.1) apart ∙ larger_one (length w) some

  -- what a turn makes of it, by what is at the front
  abbrev by_word : Option (List ℕ) → Move
  by_word o = elim o [ Some end ↦ named nothing_defined ts end | None ↦ Done nothing_defined (take (token_len ts) ts) (drop (token_len ts) ts) ]

  abbrev by_mark : Bool → Move
  by_mark marked = elim marked [ true ↦ directed (directive_of (before ts (behind_directive ts))) nothing_defined ts (behind_directive ts) | false ↦ by_word (word ts) ]

  abbrev by_quote : Bool → Move
  by_quote quoted = elim quoted [ true ↦ Done nothing_defined (take (string_len ts) ts) (drop (string_len ts) ts) | false ↦ by_mark (starts_byte 64 ts) ]

  abbrev by_comment : Option (List ℕ) → Move
  by_comment o = elim o [ Some behind ↦ Done nothing_defined (codes " ") behind | None ↦ by_quote (starts_byte quote ts) ]

  pub piece_turn : (is_word_kind k ≡ true → macro_word behind ≡ None) → move nothing_defined ts ≡ Done nothing_defined w behind
  piece_turn no_macro =
      let opened : move nothing_defined ts ≡ by_quote (starts_byte quote ts) = ap by_comment (no_comment b (bs ++ behind) unmarked) in
      elim (cases_Bool (is_text_kind k)) [
        | inl t ↦ opened ∙ ap by_quote (quoted ∙ t) ∙ done_whole w behind (string_len ts) (string_length t)
        | inr t ↦
            let named_or_copied : move nothing_defined ts ≡ by_word (word ts) = opened ∙ ap by_quote (quoted ∙ t) ∙ ap by_mark (no_directive b (bs ++ behind) unmarked) in
            elim (cases_Bool (is_word_kind k)) [
              | inl x ↦ named_or_copied ∙ ap by_word (word_read x) ∙ named_whole (no_macro x)
              | inr x ↦ named_or_copied ∙ ap by_word (no_word_read x) ∙ done_whole w behind (token_len ts) token_length
            ]
      ]
