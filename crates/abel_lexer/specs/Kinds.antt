-- Which bytes are a token of which kind, and what is wrong with a token (ABEL-HDL Reference Manual,
-- language elements; names with `~`, the limits, the signs and what is left out are this project's
-- rule).
use Rattle.std.specs.Prelude.{◌≡◌, ℕ, Bool, true, false, not, ◌==◌, ◌||◌, nat_lt, List, [], ◌∷◌, ◌++◌, ◌⊎◌, length, codes, All, Option, None, Some, if◌then◌else◌}
use Rattle.std.specs.List.{list_all, concat}
use Rattle.std.specs.Char.{is_ascii_digit, is_ascii_alphabetic, is_ascii_alphanumeric}
use Rattle.pld_base.specs.declared.place.Place.{Place}
use Rattle.abel_lexer.specs.declared.token.TokenKind.{TokenKind}
use Rattle.abel_lexer.specs.declared.token.TokenKind.TheVariants as kind
use Rattle.abel_lexer.specs.declared.fault.ScanFault.{ScanFault}
use Rattle.abel_lexer.specs.declared.fault.ScanFault.TheVariants as fault
use Rattle.abel_lexer.specs.Bytes.{quote, dot, backslash, caret, is_name_first, is_name_later, is_letter, is_radix_letter}
use Rattle.abel_lexer.specs.Keywords.{is_keyword, is_left_out, is_listed}
use Rattle.abel_lexer.specs.Numbers.{number_value, is_good_number}
use Rattle.abel_lexer.specs.Signs.{is_sign}

-- ---- forms

-- the first bytes pass these tests in turn, and each byte after them passes a last one
abbrev pub IsShaped : List (ℕ → Bool) → (ℕ → Bool) → List ℕ → Type 0
IsShaped [] later w = list_all later w ≡ true
IsShaped (t ∷ ts) later [] = ⊥
IsShaped (t ∷ ts) later (b ∷ bs) = (t b ≡ true) × IsShaped ts later bs

-- the test that no byte passes
abbrev pub no_byte : ℕ → Bool
no_byte b = false

-- how a name or a keyword begins
abbrev pub word_head : List (ℕ → Bool)
word_head = is_name_first ∷ []

-- how a number in the radix in force begins
abbrev pub number_head : List (ℕ → Bool)
number_head = is_ascii_digit ∷ []

-- how a number begins that names its radix: `^`, a letter of a radix, a letter or digit
abbrev pub marked_head : List (ℕ → Bool)
marked_head = (λ b. b == caret) ∷ is_radix_letter ∷ is_ascii_alphanumeric ∷ []

-- how an extension begins
abbrev pub extension_head : List (ℕ → Bool)
extension_head = (λ b. b == dot) ∷ is_name_first ∷ []

-- a letter between dots
abbrev pub letter_special : List (ℕ → Bool)
letter_special = (λ b. b == dot) ∷ is_ascii_alphabetic ∷ (λ b. b == dot) ∷ []

-- `.SV`, a digit and a dot
abbrev pub voltage_special : List (ℕ → Bool)
voltage_special = (λ b. b == dot) ∷ is_letter 115 ∷ is_letter 118 ∷ is_ascii_digit ∷ (λ b. b == dot) ∷ []

-- a letter, `_` or `~`, then letters, digits, `_` and `~`: an identifier or a keyword
abbrev pub IsWord : List ℕ → Type 0
IsWord w = IsShaped word_head is_name_later w

-- a piece of a text in quotes: one byte that is no quote and no backslash, or a backslash and a byte
abbrev pub IsPiece : List ℕ → Type 0
IsPiece [] = ⊥
IsPiece (b ∷ []) = (b == quote || b == backslash) ≡ false
IsPiece (b ∷ c ∷ []) = b ≡ backslash
IsPiece (b ∷ c ∷ d ∷ bs) = ⊥

-- a quote, pieces, and a quote
pub record IsQuoted (w : List ℕ) : Type 0 where
  pub pieces : List (List ℕ)
  pub each : All IsPiece pieces
  pub joined : w ≡ (quote ∷ concat pieces) ++ quote ∷ []

-- the directives that are tokens
abbrev pub directives : List (List ℕ)
directives = codes "@DCSET" ∷ codes "@ONSET" ∷ []

-- ---- kinds

-- the bytes are a token of the kind, whatever is wrong with it
abbrev pub IsToken : TokenKind → List ℕ → Type 0
IsToken kind.Identifier w = IsWord w × (is_keyword w ≡ false)
IsToken kind.Keyword w = IsWord w × (is_keyword w ≡ true)
IsToken kind.Number w = IsShaped number_head is_ascii_alphanumeric w ⊎ IsShaped marked_head is_ascii_alphanumeric w
IsToken kind.Special w = IsShaped letter_special no_byte w ⊎ IsShaped voltage_special no_byte w
IsToken kind.Extension w = IsShaped extension_head is_name_later w
IsToken kind.Text w = IsQuoted w
IsToken kind.Sign w = is_sign w ≡ true
IsToken kind.Directive w = is_listed directives w ≡ true

-- what a number says, if this radix is in force; 0 for every other kind
abbrev pub value_of : ℕ → TokenKind → List ℕ → ℕ
value_of radix kind.Identifier w = 0
value_of radix kind.Keyword w = 0
value_of radix kind.Number w = number_value radix w
value_of radix kind.Special w = 0
value_of radix kind.Extension w = 0
value_of radix kind.Text w = 0
value_of radix kind.Sign w = 0
value_of radix kind.Directive w = 0

-- ---- what is wrong with a token

-- the specials that are taken
abbrev pub taken_specials : List (List ℕ)
taken_specials = codes ".X." ∷ codes ".C." ∷ codes ".Z." ∷ []

-- the extensions that are taken
abbrev pub taken_extensions : List (List ℕ)
taken_extensions =
    codes ".CLK" ∷ codes ".OE" ∷ codes ".AR" ∷ codes ".SP" ∷ codes ".D" ∷ codes ".Q" ∷ codes ".FB" ∷ codes ".PIN" ∷ []

-- the longest name
abbrev pub longest_name : ℕ
longest_name = 31

-- the fault, if the test holds
abbrev pub fault_if : Bool → ScanFault → Option ScanFault
fault_if test f = if test then Some f else None

-- what is wrong with a token that is at a place, if this radix is in force
abbrev pub fault_of : ℕ → TokenKind → List ℕ → Place → Option ScanFault
fault_of radix kind.Identifier w p = fault_if (nat_lt longest_name (length w)) (fault.LongName p)
fault_of radix kind.Keyword w p = fault_if (is_left_out w) (fault.Unsupported p)
fault_of radix kind.Number w p = fault_if (not (is_good_number radix w)) (fault.BadNumber p)
fault_of radix kind.Special w p = fault_if (not (is_listed taken_specials w)) (fault.Unsupported p)
fault_of radix kind.Extension w p = fault_if (not (is_listed taken_extensions w)) (fault.Unsupported p)
fault_of radix kind.Text w p = None
fault_of radix kind.Sign w p = None
fault_of radix kind.Directive w p = None
