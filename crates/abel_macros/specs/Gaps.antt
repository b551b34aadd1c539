-- What is at the front of a text, and what follows it (ABEL-HDL Reference Manual, comments,
-- identifiers and numbers).
use Rattle.std.specs.Prelude.{ℕ, ◌-◌, Bool, true, false, not, ◌==◌, ◌&&◌, ◌||◌, nat_lt, List, [], ◌∷◌, length, take, drop, Option, Some, None, if◌then◌else◌}
use Rattle.abel_macros.specs.Prelude.{option_and_then, line_feed, note_mark, quote, slash, is_blank, is_name_later, word_head, shaped_len, number_len, quoted_len, listed_len, signs, Mode}
use Rattle.text_pieces.specs.declared.mode.Mode.TheVariants as mode
pub use Rattle.text_pieces.specs.Modes.{starts_byte, is_plain, quoting, passing}

-- ---- readings: a reading takes what is at the front of a text, and leaves what follows

infixl 10 ◌>>=◌
abbrev pub ◌>>=◌ : {A B : Type 0} → Option A → (A → Option B) → Option B
o >>= f = option_and_then f o

-- a value, if the test holds
abbrev pub given : {A : Type 0} → Bool → A → Option A
given true x = Some x
given false x = None

-- all but the first byte
abbrev pub rest_of : List ℕ → List ℕ
rest_of [] = []
rest_of (b ∷ bs) = bs

-- the bytes of a text that precede an end of it
abbrev pub before : List ℕ → List ℕ → List ℕ
before text behind = take (length text - length behind) text

-- after what has so many bytes; nothing has none
abbrev pub behind_some : ℕ → List ℕ → Option (List ℕ)
behind_some n text = given (nat_lt 0 n) (drop n text)

-- ---- comments, gaps and strings

-- after the rest of a comment that began with `"`: after the next `"`, or before the line feed
abbrev pub behind_note : List ℕ → List ℕ
behind_note [] = []
behind_note (b ∷ bs) = if b == note_mark then bs else if b == line_feed then b ∷ bs else behind_note bs

-- after the rest of a line, before its line feed
abbrev pub behind_line : List ℕ → List ℕ
behind_line [] = []
behind_line (b ∷ bs) = if b == line_feed then b ∷ bs else behind_line bs

-- after a comment
abbrev pub comment : List ℕ → Option (List ℕ)
comment [] = None
comment (b ∷ bs) = if b == note_mark then Some (behind_note bs) else given (b == slash && starts_byte slash bs) (behind_line bs)

-- whether this byte, which is in such a mode before others, ends blanks and comments
abbrev pub ends_gap : Mode → ℕ → List ℕ → Bool
ends_gap m b bs = is_plain m && not (is_blank b) && (b == quote || is_plain (passing m b bs))

-- after blanks and comments; the first byte is in such a mode
abbrev pub gap_in : Mode → List ℕ → List ℕ
gap_in m [] = []
gap_in m (b ∷ bs) = if ends_gap m b bs then b ∷ bs else gap_in (passing m b bs) bs

-- after any number of blanks and comments
abbrev pub gap : List ℕ → List ℕ
gap text = gap_in mode.Plain text

-- how long the string at the front is; without an end it is the whole text
abbrev pub string_len : List ℕ → ℕ
string_len text = if nat_lt 0 (quoted_len text) then quoted_len text else length text

-- ---- words, numbers and signs: those of the scanner

-- after a name or a keyword
abbrev pub word : List ℕ → Option (List ℕ)
word text = behind_some (shaped_len word_head is_name_later text) text

-- a name, blanks and comments before it passed over, and what follows it
abbrev pub name : List ℕ → Option (List ℕ × List ℕ)
name text = word (gap text) >>= λ behind. Some (before (gap text) behind, behind)

-- after a number
abbrev pub number : List ℕ → Option (List ℕ)
number text = behind_some (number_len text) text

-- the longest sign at the front, or nothing
abbrev pub sign : List ℕ → List ℕ
sign text = take (listed_len signs text) text

-- after the sign at the front, blanks and comments before it passed over
abbrev pub behind_sign : List ℕ → List ℕ
behind_sign text = drop (listed_len signs (gap text)) (gap text)
