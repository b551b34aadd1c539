-- Bytes as text that a terminal or a browser shows and doesn't obey (Unicode Standard, control and format characters; how
-- they are shown is this project's rule).
use Rattle.std.specs.Prelude.{ℕ, ◌/◌, ◌%◌, ◌==◌, ◌||◌, Bool, if◌then◌else◌, List, [], ◌∷◌, chars, encode_utf8, flat_map}
use Rattle.std.specs.Char.{is_control}
use Rattle.std.specs.Int.{is_in_range}
use Rattle.std.specs.Str.Lossy.{utf8_lossy}
use Rattle.pld_base.specs.Digits.{hex_digit}

-- a character that is invisible, or that turns the order of the text
abbrev pub is_unseen : (char : ℕ) → Bool
is_unseen c =
    c == 0xAD || c == 0x61C || is_in_range 0x200B 0x200F c || is_in_range 0x2028 0x202E c || is_in_range 0x2060 0x206F c
    || c == 0xFEFF || is_in_range 0xFFF9 0xFFFB c || is_in_range 0xE0000 0xE0FFF c

-- a control character by its number: \x1B
abbrev pub number_text : ℕ → List ℕ
number_text n = 92 ∷ 120 ∷ hex_digit (n / 16) ∷ hex_digit (n % 16) ∷ []

-- U+FFFD, by which other characters are shown that are not printable
abbrev pub replacement : ℕ
replacement = 0xFFFD

-- a character as it is shown; a tab stays
abbrev pub shown_char : (char : ℕ) → List ℕ
shown_char c =
    if c == 9 then encode_utf8 c
    else (if is_control c then number_text c else encode_utf8 (if is_unseen c then replacement else c))

-- bytes as they are shown: a piece that is no UTF-8 is read as U+FFFD
abbrev pub printable : List ℕ → List ℕ
printable bytes = flat_map shown_char (chars (utf8_lossy bytes))
