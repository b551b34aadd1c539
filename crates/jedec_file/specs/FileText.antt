-- The bytes of a fuse file: levels and lines, and the digits of its numbers (JESD3-C; that a line ends by CR LF is this project's
-- rule).
use Rattle.std.specs.Prelude.{ℕ, Bool, true, false, List, ◌++◌, get_or, codes}
pub use Rattle.pld_base.specs.Digits.{four_digits, four_hex, hex_digit}

-- the byte that a text of one byte is
abbrev pub byte : List ℕ → ℕ
byte text = get_or text 0 0

-- the start of the text
abbrev pub STX : ℕ
STX = 2

-- the end of the text
abbrev pub ETX : ℕ
ETX = 3

-- the blank between two parts of a field
abbrev pub space : ℕ
space = byte (codes " ")

-- what ends a field
abbrev pub asterisk : ℕ
asterisk = byte (codes "*")

-- a level as a character
abbrev pub level_char : Bool → ℕ
level_char true = byte (codes "1")
level_char false = byte (codes "0")

-- a field, its asterisk and the line's end
abbrev pub line : List ℕ → List ℕ
line text = text ++ codes "*\r\n"
