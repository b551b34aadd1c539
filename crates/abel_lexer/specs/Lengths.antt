-- How long the token at the front is, and what an `@RADIX` form there says: the longest of the kinds'
-- lengths, for contracts of functions that look for a token.
use Rattle.std.specs.Prelude.{ℕ, ◌+◌, Bool, false, not, ◌&&◌, ◌==◌, nat_lt, nat_eq, List, [], ◌∷◌, length, take, drop, codes, Option, None, Some, option_map, if◌then◌else◌}
use Rattle.std.specs.List.{prefix_len, starts_with}
use Rattle.std.specs.Option.{option_and_then}
use Rattle.std.specs.Char.{is_ascii_alphanumeric}
use Rattle.std.specs.Str.{str_eq_ignore_ascii_case}
use Rattle.abel_lexer.specs.declared.token.TokenKind.{TokenKind}
use Rattle.abel_lexer.specs.declared.token.TokenKind.TheVariants as kind
use Rattle.abel_lexer.specs.Bytes.{quote, backslash, is_blank, is_name_later, starts}
use Rattle.abel_lexer.specs.Keywords.{is_keyword, is_listed}
use Rattle.abel_lexer.specs.Numbers.{number_value, is_good_number, is_radix}
use Rattle.abel_lexer.specs.Signs.{signs}
use Rattle.abel_lexer.specs.Kinds.{no_byte, word_head, number_head, marked_head, extension_head, letter_special, voltage_special, directives}

-- the end of the longest form that begins with bytes that pass these tests in turn, the first byte
-- standing at this place; 0 if there isn't one
abbrev pub shaped_end : ℕ → List (ℕ → Bool) → (ℕ → Bool) → List ℕ → ℕ
shaped_end at [] later bs = at + prefix_len later bs
shaped_end at (t ∷ ts) later [] = 0
shaped_end at (t ∷ ts) later (b ∷ bs) = if t b then shaped_end (at + 1) ts later bs else 0

-- the length of the longest such form at the front
abbrev pub shaped_len : List (ℕ → Bool) → (ℕ → Bool) → List ℕ → ℕ
shaped_len ts later bs = shaped_end 0 ts later bs

-- the larger of two
abbrev pub larger : ℕ → ℕ → ℕ
larger a b = if nat_lt a b then b else a

-- the end of the closing quote, if the first byte is at this place; 0 if there isn't one. `taken`: a
-- backslash precedes the first byte
abbrev pub quote_end : ℕ → Bool → List ℕ → ℕ
quote_end at taken [] = 0
quote_end at taken (b ∷ bs) =
    if not taken && b == quote then at + 1 else quote_end (at + 1) (not taken && b == backslash) bs

-- the length of the text in quotes at the front
abbrev pub quoted_len : List ℕ → ℕ
quoted_len [] = 0
quoted_len (b ∷ bs) = if b == quote then quote_end 1 false bs else 0

-- the length of the first of these words that is at the front; none of them is after a shorter one
abbrev pub listed_len : List (List ℕ) → List ℕ → ℕ
listed_len [] ts = 0
listed_len (w ∷ ws) ts = if starts_with nat_eq ts w then length w else listed_len ws ts

-- the length of the number at the front
abbrev pub number_len : List ℕ → ℕ
number_len ts = larger (shaped_len number_head is_ascii_alphanumeric ts) (shaped_len marked_head is_ascii_alphanumeric ts)

-- the length of the special at the front
abbrev pub special_len : List ℕ → ℕ
special_len ts = larger (shaped_len letter_special no_byte ts) (shaped_len voltage_special no_byte ts)

-- the length of the directive at the front; each has six bytes
abbrev pub directive_len : List ℕ → ℕ
directive_len ts = if is_listed directives (take 6 ts) then 6 else 0

-- a word is a keyword or an identifier
abbrev pub word_kind : List ℕ → TokenKind
word_kind w = if is_keyword w then kind.Keyword else kind.Identifier

-- the word at the front with its kind
abbrev pub word_at : List ℕ → TokenKind × ℕ
word_at ts = (word_kind (take (shaped_len word_head is_name_later ts) ts), shaped_len word_head is_name_later ts)

-- the longer of two
abbrev pub longer : TokenKind × ℕ → TokenKind × ℕ → TokenKind × ℕ
longer a b = if nat_lt a.1 b.1 then b else a

-- the longest name, number or dotted word at the front, of length 0 if there isn't one
unfoldable pub longest_word : List ℕ → TokenKind × ℕ
longest_word ts =
    longer (longer (word_at ts) (kind.Number, number_len ts)) (longer (kind.Special, special_len ts) (kind.Extension, shaped_len extension_head is_name_later ts))

-- the longest token at the front, of length 0 if there isn't one
unfoldable pub longest_at : List ℕ → TokenKind × ℕ
longest_at ts =
    longer (longest_word ts) (longer (kind.Text, quoted_len ts) (longer (kind.Sign, listed_len signs ts) (kind.Directive, directive_len ts)))

-- what follows the blanks at the front
abbrev pub behind_blanks : List ℕ → List ℕ
behind_blanks ts = drop (prefix_len is_blank ts) ts

-- what follows `@RADIX`, without regard to case
unfoldable pub behind_radix_word : List ℕ → Option (List ℕ)
behind_radix_word ts = if str_eq_ignore_ascii_case (codes "@RADIX") (take 6 ts) then Some (drop 6 ts) else None

-- the radix that a number says, where `@RADIX` may set it
unfoldable pub known_radix : ℕ → List ℕ → Option ℕ
known_radix radix number = if is_good_number radix number && is_radix (number_value radix number) then Some (number_value radix number) else None

-- what follows a `;`
abbrev pub behind_semicolon : List ℕ → Option (List ℕ)
behind_semicolon ts = if starts (λ b. b == 59) ts then Some (drop 1 ts) else None

-- the radix that the number at the front sets if a `;` follows, and what follows that
unfoldable pub radix_set : ℕ → List ℕ → Option (ℕ × List ℕ)
radix_set radix ts =
    option_and_then (λ n. option_map (λ rest. (n, rest)) (behind_semicolon (behind_blanks (drop (number_len ts) ts)))) (known_radix radix (take (number_len ts) ts))

-- the radix that the `@RADIX` form at the front sets, and what follows it
unfoldable pub radix_at : ℕ → List ℕ → Option (ℕ × List ℕ)
radix_at radix ts = option_and_then (λ behind. radix_set radix (behind_blanks behind)) (behind_radix_word ts)
