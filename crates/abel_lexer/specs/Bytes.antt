-- The bytes that sources are made of (ABEL-HDL Reference Manual, language elements; that `~` may be
-- in a name, and byte 26 among the blanks, is this project's rule).
use Rattle.std.specs.Prelude.{ℕ, Bool, false, ◌==◌, ◌||◌, List, [], ◌∷◌, codes}
use Rattle.std.specs.List.{list_any}
use Rattle.std.specs.Char.{is_ascii_alphabetic, is_ascii_digit, to_ascii_lowercase}

abbrev pub line_feed : ℕ
line_feed = 10

-- `"`
abbrev pub note_mark : ℕ
note_mark = 34

-- `'`
abbrev pub quote : ℕ
quote = 39

-- `.`
abbrev pub dot : ℕ
dot = 46

abbrev pub slash : ℕ
slash = 47

abbrev pub backslash : ℕ
backslash = 92

-- `^`
abbrev pub caret : ℕ
caret = 94

-- tab, line feed, form feed, carriage return, byte 26 and space
abbrev pub is_blank : ℕ → Bool
is_blank b = b == 9 || b == line_feed || b == 12 || b == 13 || b == 26 || b == 32

-- what may begin a name: a letter, `_` or `~`
abbrev pub is_name_first : ℕ → Bool
is_name_first b = is_ascii_alphabetic b || b == 95 || b == 126

-- what may follow in a name: a digit too
abbrev pub is_name_later : ℕ → Bool
is_name_later b = is_name_first b || is_ascii_digit b

-- whether a byte is this letter, given in lower case, in either case
abbrev pub is_letter : ℕ → ℕ → Bool
is_letter l b = to_ascii_lowercase b == l

-- what names the radix of a number after its `^`: b, o, d or h, in either case
abbrev pub is_radix_letter : ℕ → Bool
is_radix_letter b = list_any (λ l. is_letter l b) (codes "bodh")

-- whether the first byte passes the test
abbrev pub starts : (ℕ → Bool) → List ℕ → Bool
starts test [] = false
starts test (b ∷ bs) = test b
