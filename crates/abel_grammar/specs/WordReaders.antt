-- Names, numbers, strings and lists of them, read from left to right (a helper of the parser's own contracts).
use Rattle.std.specs.Prelude.{List, [], ◌∷◌, Option}
use Rattle.abel_grammar.specs.Prelude.{Token, Word, Number, DontCare}
use Rattle.abel_grammar.specs.Reading.{Reader, read_token, ◌then_read◌, read_optional, read_separated, read_made}
use Rattle.abel_grammar.specs.declared.terminal.Terminal.{Terminal}
use Rattle.abel_grammar.specs.declared.terminal.Terminal.TheVariants as terminal
use Rattle.abel_grammar.specs.Terminals.{among}
use Rattle.abel_grammar.specs.Words.{word_of, numeral_of, dont_care_of}

abbrev pub read_one : Terminal → Reader Token Token
read_one t = read_token (among (t ∷ []))

abbrev pub read_apart_by : {A : Type 0} → Terminal → Reader Token A → Reader Token (List A)
read_apart_by t a = read_separated (among (t ∷ [])) a

unfoldable pub read_name : Reader Token Word
read_name = read_made word_of (read_one terminal.Identifier)

unfoldable pub read_number : Reader Token Number
read_number = read_made numeral_of (read_one terminal.Number)

unfoldable pub read_text : Reader Token Word
read_text = read_made word_of (read_one terminal.Text)

abbrev pub read_end : Reader Token (Option Token)
read_end = read_optional (among (terminal.Semicolon ∷ [])) (read_one terminal.Semicolon)

abbrev pub read_ext : Reader Token (Option Token)
read_ext = read_optional (among (terminal.Extension ∷ [])) (read_one terminal.Extension)

unfoldable pub read_dont_care : Reader Token DontCare
read_dont_care = read_made dont_care_of (read_one terminal.DontCare then_read read_end)
