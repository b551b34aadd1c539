-- Plain texts: of names, keywords, numbers, strings, signs and extensions, with blanks between them, if no token could be
-- longer, and with no comment, directive or macro (this project's rule).
use Rattle.std.specs.Prelude.{◌≡◌, ℕ, ◌==◌, ◌||◌, Bool, true, false, List, [], ◌∷◌, ◌++◌, length, None, codes}
use Rattle.decompiled.specs.Prelude.{list_all, Place, TokenKind, fault_of, IsTokensOf, first_place}
use Rattle.std.specs.Str.{str_eq_ignore_ascii_case}
use Rattle.abel_lexer.specs.declared.token.TokenKind.TheVariants as kind
use Rattle.abel_lexer.specs.Bytes.{note_mark, quote, slash, is_blank, is_name_first, starts}
use Rattle.abel_lexer.specs.Lengths.{longest_at}
use Rattle.abel_expand.specs.Runs.{IsExpanded}
use Rattle.decompiled.specs.Pieces.{Piece, text_of, tokens_from}

-- the kinds of words
abbrev pub is_word_kind : TokenKind → Bool
is_word_kind kind.Identifier = true
is_word_kind kind.Keyword = true
is_word_kind _ = false

abbrev pub is_text_kind : TokenKind → Bool
is_text_kind kind.Text = true
is_text_kind _ = false

-- what begins a comment or a directive
abbrev pub is_marked : ℕ → Bool
is_marked b = b == note_mark || b == slash || b == 64

-- blanks, and a token with nothing wrong, which begins as its kind does and is no word MACRO
pub record IsPlainPiece (p : Piece) : Type 0 where
  pub some : starts (λ b. true) p.word ≡ true
  pub sound : (at : Place) → fault_of 10 p.kind p.word at ≡ None
  pub unmarked : starts is_marked p.word ≡ false
  pub first : starts is_name_first p.word ≡ is_word_kind p.kind
  pub quoted : starts (λ b. b == quote) p.word ≡ is_text_kind p.kind
  pub no_macro : str_eq_ignore_ascii_case (codes "MACRO") p.word ≡ false
  pub blank : list_all is_blank p.gap ≡ true

-- the token is the longest before what follows it
abbrev pub IsApart : Piece → (behind : List ℕ) → Type 0
IsApart p behind = longest_at (p.word ++ behind) ≡ (p.kind, length p.word)

-- each piece is plain and apart from what follows it, at last this text
abbrev pub ArePlain : List Piece → (rest : List ℕ) → Type 0
ArePlain [] rest = Unit {0}
ArePlain (p ∷ ps) rest = IsPlainPiece p × IsApart p (text_of ps rest) × ArePlain ps rest

-- a plain text that ends in blanks expands to itself
abbrev pub PlainTextsExpandToThemselves : Type 0
PlainTextsExpandToThemselves =
    (ps : List Piece) (end : List ℕ) → list_all is_blank end ≡ true → ArePlain ps end → IsExpanded (text_of ps end) (text_of ps end)

-- its tokens are those of its pieces
abbrev pub PlainTextsHaveTheirTokens : Type 0
PlainTextsHaveTheirTokens =
    (ps : List Piece) (end : List ℕ) → list_all is_blank end ≡ true → ArePlain ps end → IsTokensOf (text_of ps end) (tokens_from first_place ps)
