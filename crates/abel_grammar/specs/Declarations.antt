-- Declarations (ABEL-HDL Reference Manual, declarations).
use Rattle.std.specs.Prelude.{ℕ, List, [], ◌∷◌, length, Option, is_some, unwrap_or, option_map}
use Rattle.abel_grammar.specs.Prelude.{Token, Word, Number, Item, Span, Tree, Declaration, ADevice, SomePins, SomeNodes, SomeAttributes, SomeConstants, SomeOptions, DontCareFor}
use Rattle.abel_grammar.specs.Form.{Form, token, ◌then◌, followed, either, optional, made, nothing}
use Rattle.abel_grammar.specs.Further.{times}
use Rattle.abel_grammar.specs.declared.terminal.Terminal.{Terminal}
use Rattle.abel_grammar.specs.declared.terminal.Terminal.TheVariants as terminal
use Rattle.abel_grammar.specs.Terminals.{among}
use Rattle.abel_grammar.specs.Words.{one, each_apart_by, name, number, text, end, dont_care}
use Rattle.abel_grammar.specs.Expressions.{expr}

-- [!] item, where item = id | id .. id
abbrev pub item_of : Option Token × (Word × Option (Token × Word)) → Item
item_of x = record { negated = is_some x.0; first = x.1.0; last = option_map (λ l. l.1) x.1.1 }

unfoldable pub item : Form Token Item
item = made item_of (optional (one terminal.Not) then name then optional (one terminal.Range then name))

-- names = [!] item {, [!] item}
unfoldable pub names : Form Token (List Item)
names = each_apart_by terminal.Comma item

-- nums = num {, num}        num = number | number .. number
abbrev pub span_of : Number × Option (Token × Number) → Span
span_of x = record { first = x.0; last = option_map (λ l. l.1) x.1 }

unfoldable pub num : Form Token Span
num = made span_of (number then optional (one terminal.Range then number))

unfoldable pub nums : Form Token (List Span)
nums = each_apart_by terminal.Comma num

-- string {, string}
unfoldable pub texts : Form Token (List Word)
texts = each_apart_by terminal.Comma text

-- istype = ISTYPE string {, string}
abbrev pub attributes_in : Token × List Word → List Word
attributes_in x = x.1

unfoldable pub istype : Form Token (List Word)
istype = made attributes_in (one terminal.Istype then texts)

-- option = (FLAG | OPTIONS) string {, string} [;]
abbrev pub option_words : List Terminal
option_words = terminal.Flag ∷ terminal.Options ∷ []

abbrev pub options_in : Token × (List Word × Option Token) → List Word
options_in x = x.1.0

unfoldable pub option : Form Token (List Word)
option = made options_in (token (among option_words) then texts then end)

-- id DEVICE string ;
abbrev pub device_of : Word × (Token × (Word × Token)) → Declaration
device_of x = ADevice x.0 x.1.1.0

unfoldable pub device : Form Token Declaration
device = made device_of (name then one terminal.Device then text then one terminal.Semicolon)

-- names PIN [nums] [istype] ;        names NODE [nums] [istype] ;
abbrev pub Kept : Type 0
Kept = Token × (Option (List Span) × (Option (List Word) × Token))

abbrev pub pins_of : List Item × Kept → Declaration
pins_of x = SomePins x.0 (unwrap_or x.1.1.0 []) (unwrap_or x.1.1.1.0 [])

abbrev pub nodes_of : List Item × Kept → Declaration
nodes_of x = SomeNodes x.0 (unwrap_or x.1.1.0 []) (unwrap_or x.1.1.1.0 [])

abbrev pub kept : Terminal → Form Token Kept
kept word = one word then optional nums then optional istype then one terminal.Semicolon

unfoldable pub pins : Form Token Declaration
pins = made pins_of (names then kept terminal.Pin)

unfoldable pub nodes : Form Token Declaration
nodes = made nodes_of (names then kept terminal.Node)

-- names istype ;
abbrev pub attributes_of : List Item × (List Word × Token) → Declaration
attributes_of x = SomeAttributes x.0 x.1.0

unfoldable pub attributes : Form Token Declaration
attributes = made attributes_of (names then istype then one terminal.Semicolon)

-- id {, id} = expr {, expr} ;        with as many expressions as names
abbrev pub constants_of : List Word × (Token × (List Tree × Token)) → Declaration
constants_of x = SomeConstants x.0 x.1.1.0

abbrev pub value_of : Token × Tree → Tree
value_of x = x.1

abbrev pub values_for : List Word → Form Token Tree → Form Token (List Tree)
values_for [] e = nothing
values_for (w ∷ ws) e = made (λ x. x.0 ∷ x.1) (e then times (length ws) (made value_of (one terminal.Comma then e)))

unfoldable pub constants : Form Token Tree → Form Token Declaration
constants e =
    made constants_of
    (followed (each_apart_by terminal.Comma name) (λ ws. one terminal.Equal then values_for ws e then one terminal.Semicolon))

-- what declares names
unfoldable pub naming : ℕ → Form Token Declaration
naming n = either device (either pins (either nodes (either attributes (constants (expr n)))))

-- decl = (what declares names) | option | dc
unfoldable pub option_decl : Form Token Declaration
option_decl = made SomeOptions option

unfoldable pub dont_care_decl : Form Token Declaration
dont_care_decl = made DontCareFor dont_care

unfoldable pub decl : ℕ → Form Token Declaration
decl n = either (naming n) (either option_decl dont_care_decl)

-- a declaration that is no option
unfoldable pub other_decl : ℕ → Form Token Declaration
other_decl n = either (naming n) dont_care_decl
