-- A plain text expands to itself.
use Rattle.std.proofs.Common.{◌≡◌, ℕ, suc, inl, inr, Bool, true, false, List, [], ◌∷◌, ◌++◌, length, None, Result, Ok, Err, refl, sym, ap, subst, ◌∙◌, arith, append_assoc, append-nil, ◌==◌, ◌&&◌, codes}
use Rattle.decompiled.proofs.Common.{list_all, str_eq_ignore_ascii_case, cases_Bool, true≢false, TokenKind, quote, is_blank, is_name_first, starts, longest_at, begins_dark, gap, Cause, Done, move, macro_word, Config, turn, moved, nothing_defined, turned, after, Piece, text_of, ArePlain, is_marked, is_word_kind, is_text_kind, PlainTextsExpandToThemselves}
use Rattle.decompiled.proofs.Tokens.{is_token}
use Rattle.decompiled.proofs.Turns.{before_is, blank_turn, gap_behind, no_gap, piece_turn, word_read, no_word_read}

-- ---- no word MACRO after a piece

-- after blanks alone isn't one
gap_all : (end : List ℕ) → list_all is_blank end ≡ true → gap end ≡ []
gap_all end blank = ap gap (sym (append-nil end)) ∙ gap_behind end [] blank

no_macro_after : (ts : List ℕ) → gap ts ≡ [] → macro_word ts ≡ None
no_macro_after ts e = rw e refl

first_no_macro : (k : TokenKind) (b : ℕ) (bs behind : List ℕ) → is_marked b ≡ false → is_name_first b ≡ is_word_kind k → (b == quote) ≡ is_text_kind k
    → longest_at (b ∷ bs ++ behind) ≡ (k, length (b ∷ bs)) → str_eq_ignore_ascii_case (codes "MACRO") (b ∷ bs) ≡ false
    → (g : List ℕ) → list_all is_blank g ≡ true → macro_word (g ++ (b ∷ bs ++ behind)) ≡ None
first_no_macro k b bs behind unmarked first quoted apart none g blank =
    let dark : is_blank b ≡ false = begins_dark k (b ∷ bs) behind (is_token k (b ∷ bs) behind (omega arith) apart) in
    let there : gap (g ++ (b ∷ bs ++ behind)) ≡ b ∷ bs ++ behind = gap_behind g (b ∷ bs ++ behind) blank ∙ no_gap b (bs ++ behind) unmarked dark in
    elim (cases_Bool (is_word_kind k)) [
      | inl x ↦ rw there (rw (word_read k b bs behind unmarked first quoted apart x) (rw (before_is (b ∷ bs) behind) (rw none refl)))
      | inr x ↦ rw there (rw (no_word_read k b bs behind unmarked first quoted apart x) refl)
    ]

pub no_macro_behind : (ps : List Piece) (end : List ℕ) → list_all is_blank end ≡ true → ArePlain ps end → macro_word (text_of ps end) ≡ None
no_macro_behind [] end blank plain = no_macro_after (text_of [] end) (gap_all end blank)
no_macro_behind (p ∷ ps) end blank plain = at p.word refl
  where
    at : (w : List ℕ) → p.word ≡ w → macro_word (p.gap ++ (p.word ++ text_of ps end)) ≡ None
    at [] e = absurd (true≢false (sym plain.0.some ∙ ap (starts (λ b. true)) e))
    at (b ∷ bs) e =
        let behind : List ℕ = text_of ps end in
        rw e (first_no_macro p.kind b bs behind
        (subst (λ (v : List ℕ). starts is_marked v ≡ false) e plain.0.unmarked)
        (subst (λ (v : List ℕ). starts is_name_first v ≡ is_word_kind p.kind) e plain.0.first)
        (subst (λ (v : List ℕ). starts (λ c. c == quote) v ≡ is_text_kind p.kind) e plain.0.quoted)
        (subst (λ (v : List ℕ). longest_at (v ++ behind) ≡ (p.kind, length v)) e plain.1)
        (subst (λ (v : List ℕ). str_eq_ignore_ascii_case (codes "MACRO") v ≡ false) e plain.0.no_macro) p.gap plain.0.blank)

-- ---- turns

token_turn : (p : Piece) (ps : List Piece) (end : List ℕ) → list_all is_blank end ≡ true → ArePlain (p ∷ ps) end
    → move nothing_defined (p.word ++ text_of ps end) ≡ Done nothing_defined p.word (text_of ps end)
token_turn p ps end blank plain = at p.word refl
  where
    at : (w : List ℕ) → p.word ≡ w → move nothing_defined (p.word ++ text_of ps end) ≡ Done nothing_defined p.word (text_of ps end)
    at [] e = absurd (true≢false (sym plain.0.some ∙ ap (starts (λ b. true)) e))
    at (b ∷ bs) e =
        let behind : List ℕ = text_of ps end in
        rw e (piece_turn p.kind b bs behind
        (subst (λ (v : List ℕ). starts is_marked v ≡ false) e plain.0.unmarked)
        (subst (λ (v : List ℕ). starts is_name_first v ≡ is_word_kind p.kind) e plain.0.first)
        (subst (λ (v : List ℕ). starts (λ c. c == quote) v ≡ is_text_kind p.kind) e plain.0.quoted)
        (subst (λ (v : List ℕ). longest_at (v ++ behind) ≡ (p.kind, length v)) e plain.1)
        (λ is. no_macro_behind ps end blank plain.2))

-- nothing defined, nothing rewritten
abbrev standing : (done rest : List ℕ) → Config
standing done rest = record { done = done; tables = nothing_defined; rewritings = 0; rest = rest }

-- some number of turns leads there
abbrev Reaches : List ℕ → (done rest : List ℕ) → Type 0
Reaches text done rest = (n : ℕ) × (after n text ≡ standing done rest)

one_turn : (text done rest w behind : List ℕ) → move nothing_defined rest ≡ Done nothing_defined w behind → Reaches text done rest → Reaches text (done ++ w) behind
one_turn text done rest w behind m r =
    let t : turn (standing done rest) ≡ Ok (standing (done ++ w) behind) = ap (moved (standing done rest)) m in
    (suc r.0, ap turned r.1 ∙ ap (λ (x : Result Config Cause). elim x [ Ok d ↦ d | Err cause ↦ standing done rest ]) t)

gap_turns : (text done g rest : List ℕ) → list_all is_blank g ≡ true → Reaches text done (g ++ rest) → Reaches text (done ++ g) rest
gap_turns text done [] rest blank r = subst (λ (d : List ℕ). Reaches text d rest) (sym (append-nil done)) r
gap_turns text done (b ∷ g) rest blank r =
    elim (cases_Bool (is_blank b)) [
      | inl e ↦
          let one = one_turn text done (b ∷ g ++ rest) (b ∷ []) (g ++ rest) (blank_turn b (g ++ rest) e) r in
          subst (λ (d : List ℕ). Reaches text d rest) (append_assoc done (b ∷ []) g)
          (gap_turns text (done ++ b ∷ []) g rest (subst (λ (t : Bool). (t && list_all is_blank g) ≡ true) e blank) one)
      | inr e ↦ absurd (true≢false (sym blank ∙ ap (λ (t : Bool). t && list_all is_blank g) e))
    ]

all_turns : (text done : List ℕ) (ps : List Piece) (end : List ℕ) → list_all is_blank end ≡ true → ArePlain ps end → Reaches text done (text_of ps end) → Reaches text (done ++ text_of ps end) []
all_turns text done [] end blank plain r =
    gap_turns text done end [] blank (subst (λ (v : List ℕ). Reaches text done v) (sym (append-nil end)) r)
all_turns text done (p ∷ ps) end blank plain r =
    let behind : List ℕ = text_of ps end in
    let passed = gap_turns text done p.gap (p.word ++ behind) plain.0.blank r in
    let one = one_turn text (done ++ p.gap) (p.word ++ behind) p.word behind (token_turn p ps end blank plain) passed in
    let whole : ((done ++ p.gap) ++ p.word) ++ behind ≡ done ++ (p.gap ++ (p.word ++ behind)) =
    append_assoc (done ++ p.gap) p.word behind ∙ append_assoc done p.gap (p.word ++ behind) in
    subst (λ (d : List ℕ). Reaches text d []) whole (all_turns text ((done ++ p.gap) ++ p.word) ps end blank plain.2 one)

pub expands : PlainTextsExpandToThemselves
expands ps end blank plain =
    let r = all_turns (text_of ps end) [] ps end blank plain (0, refl) in
    (r.0, ap (λ (c : Config). c.rest) r.1, ap (λ (c : Config). c.done) r.1)
