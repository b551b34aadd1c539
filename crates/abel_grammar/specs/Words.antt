-- Names, numbers, strings and lists of them (ABEL-HDL Reference Manual, language elements).
use Rattle.std.specs.Prelude.{ℕ, List, [], ◌∷◌, Option, option_map, codes, if◌then◌else◌}
use Rattle.abel_grammar.specs.Prelude.{str_eq_ignore_ascii_case, Token, Word, Number, DontCare}
use Rattle.abel_grammar.specs.Form.{Form, token, ◌then◌, optional, separated, made}
use Rattle.abel_tree.specs.declared.words.Extension.{Extension}
use Rattle.abel_tree.specs.declared.words.Extension.TheVariants as extension
use Rattle.abel_grammar.specs.declared.terminal.Terminal.{Terminal}
use Rattle.abel_grammar.specs.declared.terminal.Terminal.TheVariants as terminal
use Rattle.abel_grammar.specs.Terminals.{among}

-- one terminal
abbrev pub one : Terminal → Form Token Token
one t = token (among (t ∷ []))

-- a form again and again, with a terminal between any two: a {t a}
abbrev pub each_apart_by : {A : Type 0} → Terminal → Form Token A → Form Token (List A)
each_apart_by t a = separated (among (t ∷ [])) a

-- a token's text and place
abbrev pub word_of : Token → Word
word_of t = record { text = t.text; place = t.place }

abbrev pub numeral_of : Token → Number
numeral_of t = record { value = t.value; place = t.place }

-- the extension that a token's text names
abbrev pub extension_of : List ℕ → Extension
extension_of word =
    if str_eq_ignore_ascii_case word (codes ".clk") then extension.Clk
    else if str_eq_ignore_ascii_case word (codes ".oe") then extension.Oe
    else if str_eq_ignore_ascii_case word (codes ".ar") then extension.Ar
    else if str_eq_ignore_ascii_case word (codes ".sp") then extension.Sp
    else if str_eq_ignore_ascii_case word (codes ".d") then extension.D
    else if str_eq_ignore_ascii_case word (codes ".q") then extension.Q
    else if str_eq_ignore_ascii_case word (codes ".fb") then extension.Fb
    else extension.Pin

abbrev pub extension_in : Option Token → Option Extension
extension_in o = option_map (λ t. extension_of t.text) o

-- name = id        number = num        text = string        end = [;]        ext = [extension]
unfoldable pub name : Form Token Word
name = made word_of (one terminal.Identifier)

unfoldable pub number : Form Token Number
number = made numeral_of (one terminal.Number)

unfoldable pub text : Form Token Word
text = made word_of (one terminal.Text)

abbrev pub end : Form Token (Option Token)
end = optional (one terminal.Semicolon)

abbrev pub ext : Form Token (Option Token)
ext = optional (one terminal.Extension)

-- dc = (@DCSET | @ONSET) [;]
abbrev pub dont_care_of : Token × Option Token → DontCare
dont_care_of x = record { on = str_eq_ignore_ascii_case x.0.text (codes "@dcset"); place = x.0.place }

unfoldable pub dont_care : Form Token DontCare
dont_care = made dont_care_of (one terminal.DontCare then end)
