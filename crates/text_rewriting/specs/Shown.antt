-- What is done for a byte of a form in which comments become spaces.
use Rattle.std.specs.Prelude.{ℕ, ◌==◌, List, [], ◌∷◌, codes, if◌then◌else◌}
use Rattle.abel_lexer.specs.Bytes.{line_feed}
use Rattle.text_pieces.specs.declared.mode.Mode.{Mode}
use Rattle.text_pieces.specs.declared.mode.Mode.TheVariants as mode

-- a byte that is in a mode, and the mode after it: a comment's first byte is a space, and of the
-- others only a line feed is done
abbrev pub shown_of : Mode → Mode → ℕ → List ℕ
shown_of mode.Plain mode.Note b = codes " "
shown_of mode.Plain mode.Line b = codes " "
shown_of mode.Plain mode.Plain b = b ∷ []
shown_of mode.Plain mode.Quoted b = b ∷ []
shown_of mode.Plain mode.Escaped b = b ∷ []
shown_of mode.Note _ b = if b == line_feed then b ∷ [] else []
shown_of mode.Line _ b = if b == line_feed then b ∷ [] else []
shown_of mode.Quoted _ b = b ∷ []
shown_of mode.Escaped _ b = b ∷ []
