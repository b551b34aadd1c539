-- The tokens of a text, and its first refusal: blanks, `@RADIX` forms and tokens in order make up the
-- text, each token the longest that begins at its place (ABEL-HDL Reference Manual, language
-- elements, and the @RADIX directive; the order of refusals is this project's rule).
use Rattle.std.specs.Prelude.{◌≡◌, ℕ, ◌+◌, ◌≤◌, ◌<◌, true, false, ◌==◌, List, [], ◌∷◌, ◌++◌, ◌⊎◌, length, codes, Option, None, Some, if◌then◌else◌}
use Rattle.std.specs.List.{list_all}
use Rattle.std.specs.Str.{str_eq_ignore_ascii_case}
use Rattle.pld_base.specs.declared.place.Place.{Place}
use Rattle.abel_lexer.specs.declared.token.Token.{Token}
use Rattle.abel_lexer.specs.declared.token.TokenKind.{TokenKind}
use Rattle.abel_lexer.specs.declared.token.TokenKind.TheVariants as kind
use Rattle.abel_lexer.specs.declared.fault.ScanFault.{ScanFault}
use Rattle.abel_lexer.specs.declared.fault.ScanFault.TheVariants as fault
use Rattle.abel_lexer.specs.Bytes.{line_feed, is_blank, starts}
use Rattle.abel_lexer.specs.Numbers.{number_value, is_good_number, is_radix}
use Rattle.abel_lexer.specs.Kinds.{IsToken, value_of, fault_of}

-- ---- places

-- the place after one byte: a line feed begins a line, and every other byte takes a column
abbrev pub past : Place → ℕ → Place
past p b = if b == line_feed then record { line = p.line + 1; column = 1 } else record { line = p.line; column = p.column + 1 }

-- the place after these bytes
abbrev pub place_past : Place → List ℕ → Place
place_past p [] = p
place_past p (b ∷ bs) = place_past (past p b) bs

-- the place of the first byte
abbrev pub first_place : Place
first_place = record { line = 1; column = 1 }

-- ---- what is next

-- what is left to scan: its place, the radix in force there, and its bytes
pub record Remainder : Type 0 where
  pub place : Place
  pub radix : ℕ
  pub text : List ℕ

-- a whole text: decimal, from line 1 and column 1
abbrev pub whole : List ℕ → Remainder
whole text = record { place = first_place; radix = 10; text = text }

-- `@RADIX`, a number and `;`, blanks between them; the number says one of the four radices
pub record IsRadixForm (radix : ℕ) (w : List ℕ) (value : ℕ) : Type 0 where
  pub word : List ℕ
  pub gap : List ℕ
  pub number : List ℕ
  pub gap_behind : List ℕ
  pub parts : w ≡ word ++ (gap ++ (number ++ (gap_behind ++ codes ";")))
  pub directive : str_eq_ignore_ascii_case (codes "@RADIX") word ≡ true
  pub blank : list_all is_blank gap ≡ true
  pub token : IsToken kind.Number number
  pub blank_behind : list_all is_blank gap_behind ≡ true
  pub good : is_good_number radix number ≡ true
  pub says : value ≡ number_value radix number
  pub known : is_radix value ≡ true

-- these bytes are the longest token of a kind at the front
pub record IsLongest (text : List ℕ) (k : TokenKind) (w rest : List ℕ) : Type 0 where
  pub parts : text ≡ w ++ rest
  pub token : IsToken k w
  pub longest : (l : TokenKind) (v more : List ℕ) → text ≡ v ++ more → IsToken l v → length v ≤ length w

-- a token of a text, or an `@RADIX` form with its bytes and what it sets
pub data Lexeme : Type 0 where
  Shown : Token → Lexeme
  Radix : List ℕ → ℕ → Lexeme

-- the tokens among these
abbrev pub tokens_among : List Lexeme → List Token
tokens_among [] = []
tokens_among (Shown t ∷ ls) = t ∷ tokens_among ls
tokens_among (Radix w n ∷ ls) = tokens_among ls

-- such a lexeme is at the front of a remainder, and leaves another; a token is the longest there and
-- has nothing wrong
abbrev pub IsFront : Remainder → Lexeme → Remainder → Type 0
IsFront at (Shown t) behind =
    IsLongest at.text t.kind t.text behind.text × (fault_of at.radix t.kind t.text at.place ≡ None) × (t.place ≡ at.place)
    × (t.value ≡ value_of at.radix t.kind t.text) × (behind.place ≡ place_past at.place t.text) × (behind.radix ≡ at.radix)
IsFront at (Radix w n) behind =
    IsRadixForm at.radix w n × (at.text ≡ w ++ behind.text) × (behind.place ≡ place_past at.place w) × (behind.radix ≡ n)

-- all the blanks at the front are passed
pub record Passes (at : Remainder) (behind : Remainder) : Type 0 where
  pub gap : List ℕ
  pub parts : at.text ≡ gap ++ behind.text
  pub blank : list_all is_blank gap ≡ true
  pub all : starts is_blank behind.text ≡ false
  pub place : behind.place ≡ place_past at.place gap
  pub radix : behind.radix ≡ at.radix

-- these lexemes in order, with blanks before each, lead from one remainder to another that begins
-- with no blank
abbrev pub Leads : Remainder → List Lexeme → Remainder → Type 0
Leads at [] end = Passes at end
Leads at (l ∷ ls) end = (front : Remainder) × (behind : Remainder) × Passes at front × IsFront front l behind × Leads behind ls end

-- ---- the two answers

-- the tokens of a text: lexemes lead to its end, and these are the tokens among them
pub record IsTokensOf (text : List ℕ) (ts : List Token) : Type 0 where
  pub lexemes : List Lexeme
  pub end : Remainder
  pub leads : Leads (whole text) lexemes end
  pub empty : end.text ≡ []
  pub tokens : ts ≡ tokens_among lexemes

-- a fault is at the front of a remainder that isn't empty: nothing begins there, or its longest token
-- has something wrong
abbrev pub Faults : Remainder → ScanFault → Type 0
Faults at f =
    ((f ≡ fault.NotText at.place) × (0 < length at.text) × ((k : TokenKind) (w rest : List ℕ) → at.text ≡ w ++ rest → IsToken k w → ⊥)
    × ((w rest : List ℕ) (n : ℕ) → at.text ≡ w ++ rest → IsRadixForm at.radix w n → ⊥))
    ⊎ ((k : TokenKind) × (w : List ℕ) × (rest : List ℕ) × IsLongest at.text k w rest × (fault_of at.radix k w at.place ≡ Some f))

-- the first fault of a text: what precedes it is blanks, `@RADIX` forms and sound tokens
pub record IsFirstFault (text : List ℕ) (f : ScanFault) : Type 0 where
  pub lexemes : List Lexeme
  pub end : Remainder
  pub leads : Leads (whole text) lexemes end
  pub fault : Faults end f

-- these are the only tokens of the text, and no fault is in it
pub record AreOnlyTokens (text : List ℕ) (ts : List Token) : Type 0 where
  pub tokens : (others : List Token) → IsTokensOf text others → others ≡ ts
  pub faults : (f : ScanFault) → IsFirstFault text f → ⊥

-- this is the only first fault of the text, and the text has no tokens
pub record IsOnlyFault (text : List ℕ) (f : ScanFault) : Type 0 where
  pub faults : (other : ScanFault) → IsFirstFault text other → other ≡ f
  pub tokens : (ts : List Token) → IsTokensOf text ts → ⊥
