-- The place of the bytes of a text: in the plain text, in a string or in a comment (ABEL-HDL
-- Reference Manual, comments and strings).
use Rattle.std.specs.Prelude.{ℕ, Bool, true, false, not, ◌==◌, ◌&&◌, ◌||◌, List, if◌then◌else◌}
use Rattle.abel_lexer.specs.Bytes.{line_feed, note_mark, quote, slash, backslash, starts}
use Rattle.text_pieces.specs.declared.mode.Mode.{Mode}
use Rattle.text_pieces.specs.declared.mode.Mode.TheVariants as mode

-- whether the first byte is this one
abbrev pub starts_byte : ℕ → List ℕ → Bool
starts_byte b bs = starts (λ c. c == b) bs

abbrev pub is_plain : Mode → Bool
is_plain mode.Plain = true
is_plain mode.Quoted = false
is_plain mode.Escaped = false
is_plain mode.Note = false
is_plain mode.Line = false

-- the place of the byte after this one, where comments don't count in the plain text
abbrev pub quoting : Mode → ℕ → Mode
quoting mode.Plain b = if b == quote then mode.Quoted else mode.Plain
quoting mode.Quoted b = if b == backslash then mode.Escaped else if b == quote then mode.Plain else mode.Quoted
quoting mode.Escaped b = mode.Quoted
quoting mode.Note b = if b == note_mark || b == line_feed then mode.Plain else mode.Note
quoting mode.Line b = if b == line_feed then mode.Plain else mode.Line

-- the same where comments count; `bs` follow the byte
abbrev pub passing : Mode → ℕ → List ℕ → Mode
passing m b bs =
    if not (is_plain m) then quoting m b
    else if b == note_mark then mode.Note else if b == slash && starts_byte slash bs then mode.Line else quoting m b
