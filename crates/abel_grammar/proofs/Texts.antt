-- The places of a text's tokens rise.
use Rattle.std.proofs.Common.{◌≡◌, ℕ, ◌+◌, ◌<◌, ◌⊎◌, inl, inr, Bool, true, false, cond, ◌==◌, List, [], ◌∷◌, length, refl, sym, subst, ◌∙◌, arith}
use Rattle.abel_grammar.proofs.Common.{All, All-nil, All-cons, All-weaker, Place, Token, IsBefore, TokensRise}
use Rattle.abel_lexer.specs.Bytes.{line_feed}
use Rattle.abel_lexer.specs.Scans.{past, place_past, Remainder, whole, Lexeme, Shown, Radix, tokens_among, IsFront, Passes, Leads, IsTokensOf}
use Rattle.abel_lexer.proofs.Longest.{token_some}

-- a place is at another or before it
abbrev NotBehind : Place → Place → Type 0
NotBehind p q = (p ≡ q) ⊎ IsBefore p q

before_before : (p q r : Place) → IsBefore p q → IsBefore q r → IsBefore p r
before_before p q r (inl a) (inl b) = inl (omega (arith, a, b))
before_before p q r (inl a) (inr b) = inl (omega (arith, a, b.0))
before_before p q r (inr a) (inl b) = inl (omega (arith, a.0, b))
before_before p q r (inr a) (inr b) = inr (a.0 ∙ b.0, omega (arith, a.1, b.1))

not_behind_before : (p q r : Place) → NotBehind p q → IsBefore q r → IsBefore p r
not_behind_before p q r (inl e) b = subst (λ (x : Place). IsBefore x r) (sym e) b
not_behind_before p q r (inr a) b = before_before p q r a b

before_not_behind : (p q r : Place) → IsBefore p q → NotBehind q r → IsBefore p r
before_not_behind p q r a (inl e) = subst (IsBefore p) e a
before_not_behind p q r a (inr b) = before_before p q r a b

past_before : (p : Place) (b : ℕ) → IsBefore p (past p b)
past_before p b = by_test (b == line_feed)
  where
    by_test : (t : Bool) → IsBefore p (cond t (record { line = p.line + 1; column = 1 }) (record { line = p.line; column = p.column + 1 }))
    by_test true = inl (omega arith)
    by_test false = inr (refl, omega arith)

past_all : (p : Place) (bs : List ℕ) → NotBehind p (place_past p bs)
past_all p [] = inl refl
past_all p (b ∷ bs) = inr (before_not_behind p (past p b) (place_past (past p b) bs) (past_before p b) (past_all (past p b) bs))

past_some : (p : Place) (bs : List ℕ) → 0 < length bs → IsBefore p (place_past p bs)
past_some p [] lt = absurd (omega (arith, lt))
past_some p (b ∷ bs) lt = before_not_behind p (past p b) (place_past (past p b) bs) (past_before p b) (past_all (past p b) bs)

not_behind_both : (p q r : Place) → NotBehind p q → NotBehind q r → NotBehind p r
not_behind_both p q r (inl e) h = subst (λ (x : Place). NotBehind x r) (sym e) h
not_behind_both p q r (inr a) h = inr (before_not_behind p q r a h)

passed : (at behind : Remainder) → Passes at behind → NotBehind at.place behind.place
passed at behind h = subst (NotBehind at.place) (sym h.place) (past_all at.place h.gap)

-- what follows a lexeme follows its place
lexeme_before : (l : Lexeme) (at front behind : Remainder) → Passes at front → IsFront front l behind → NotBehind at.place behind.place
lexeme_before (Shown t) at front behind h f =
    not_behind_both at.place front.place behind.place (passed at front h) (subst (NotBehind front.place) (sym f.4) (past_all front.place t.text))
lexeme_before (Radix w n) at front behind h f =
    not_behind_both at.place front.place behind.place (passed at front h) (subst (NotBehind front.place) (sym f.2) (past_all front.place w))

abbrev From : Place → Token → Type 0
From p t = NotBehind p t.place

token_front : (t : Token) (front behind : Remainder) → IsFront front (Shown t) behind → IsBefore t.place behind.place
token_front t front behind f =
    subst (λ (p : Place). IsBefore p behind.place) (sym f.2)
    (subst (IsBefore front.place) (sym f.4) (past_some front.place t.text (token_some t.kind t.text f.0.token)))

-- what is at the end of a lexeme or after it follows the lexeme's place
later : (l : Lexeme) (at front behind : Remainder) → Passes at front → IsFront front l behind → (ts : List Token) → All (From behind.place) ts → All (From at.place) ts
later l at front behind p f ts h =
    All-weaker (From behind.place) (From at.place)
    (λ t b. not_behind_both at.place behind.place t.place (lexeme_before l at front behind p f) b) ts h

all_from : (ls : List Lexeme) (at end : Remainder) → Leads at ls end → All (From at.place) (tokens_among ls)
all_from [] at end h = All-nil (From at.place)
all_from (Shown t ∷ ls) at end h =
    All-cons (From at.place) t (tokens_among ls)
    (subst (NotBehind at.place) (sym h.3.2) (passed at h.0 h.2))
    (later (Shown t) at h.0 h.1 h.2 h.3 (tokens_among ls) (all_from ls h.1 end h.4))
all_from (Radix w n ∷ ls) at end h =
    later (Radix w n) at h.0 h.1 h.2 h.3 (tokens_among ls) (all_from ls h.1 end h.4)

lexemes_rise : (ls : List Lexeme) (at end : Remainder) → Leads at ls end → TokensRise (tokens_among ls)
lexemes_rise [] at end h = tt
lexemes_rise (Shown t ∷ ls) at end h = (
  All-weaker (From h.1.place) (λ (u : Token). IsBefore t.place u.place)
      (λ u b. before_not_behind t.place h.1.place u.place (token_front t h.0 h.1 h.3) b)
      (tokens_among ls) (all_from ls h.1 end h.4),
  lexemes_rise ls h.1 end h.4,
)
lexemes_rise (Radix w n ∷ ls) at end h = lexemes_rise ls h.1 end h.4

pub tokens_rise : (text : List ℕ) (ts : List Token) → IsTokensOf text ts → TokensRise ts
tokens_rise text ts h = subst TokensRise (sym h.tokens) (lexemes_rise h.lexemes (whole text) h.end h.leads)
