-- Expressions (ABEL-HDL Reference Manual, expressions and sets). The number n of a form is how many
-- constructs may be open round a token of it (this project's rule).
use Rattle.std.specs.Prelude.{ℕ, zero, suc, List, [], ◌∷◌, Option}
use Rattle.abel_grammar.specs.Prelude.{Token, Word, Tree, ANumber, ASpecial, AName, ASet, AParen, AUnary, ABinary, SetMember, OneMember, SpanMember, members_of}
use Rattle.std.specs.Char.{to_ascii_uppercase}
use Rattle.abel_grammar.specs.Form.{Form, token, ◌then◌, either, chain, made, nothing}
use Rattle.abel_tree.specs.declared.words.Unary.{Unary}
use Rattle.abel_tree.specs.declared.words.Unary.TheVariants as unary
use Rattle.abel_tree.specs.declared.words.Binary.{Binary}
use Rattle.abel_tree.specs.declared.words.Binary.TheVariants as binary
use Rattle.abel_grammar.specs.declared.terminal.Terminal.{Terminal}
use Rattle.abel_grammar.specs.declared.terminal.Terminal.TheVariants as terminal
use Rattle.abel_grammar.specs.Terminals.{among, terminal_of}
use Rattle.abel_grammar.specs.Words.{one, each_apart_by, name, number, ext, extension_in}

-- ---- what needs no nesting

-- name [ext]
abbrev pub name_tree_of : Word × Option Token → Tree
name_tree_of x = AName x.0 (extension_in x.1)

unfoldable pub name_tree : Form Token Tree
name_tree = made name_tree_of (name then ext)

unfoldable pub number_tree : Form Token Tree
number_tree = made ANumber number

-- the letter of a special, in upper case
abbrev pub letter_of : List ℕ → ℕ
letter_of [] = 0
letter_of (d ∷ []) = 0
letter_of (d ∷ c ∷ more) = to_ascii_uppercase c

abbrev pub special_of : Token → Tree
special_of t = ASpecial (letter_of t.text) t.place

unfoldable pub special : Form Token Tree
special = made special_of (one terminal.Special)

-- id [ext] | number | special
abbrev pub simple : Form Token Tree
simple = either name_tree (either number_tree special)

-- ---- signs, by priority

abbrev pub relations : List Terminal
relations = terminal.IsEqual ∷ terminal.Unequal ∷ terminal.Less ∷ terminal.LessEqual ∷ terminal.Greater ∷ terminal.GreaterEqual ∷ []

abbrev pub sums : List Terminal
sums = terminal.Plus ∷ terminal.Minus ∷ terminal.Or ∷ terminal.Xor ∷ terminal.Xnor ∷ []

abbrev pub products : List Terminal
products = terminal.And ∷ terminal.ShiftLeft ∷ terminal.ShiftRight ∷ terminal.Times ∷ terminal.Over ∷ terminal.Rest ∷ []

abbrev pub binary_of : Terminal → Binary
binary_of terminal.IsEqual = binary.Equal
binary_of terminal.Unequal = binary.Unequal
binary_of terminal.Less = binary.Less
binary_of terminal.LessEqual = binary.LessEqual
binary_of terminal.Greater = binary.Greater
binary_of terminal.GreaterEqual = binary.GreaterEqual
binary_of terminal.Plus = binary.Plus
binary_of terminal.Minus = binary.Minus
binary_of terminal.Or = binary.Or
binary_of terminal.Xor = binary.Xor
binary_of terminal.Xnor = binary.Xnor
binary_of terminal.ShiftLeft = binary.ShiftLeft
binary_of terminal.ShiftRight = binary.ShiftRight
binary_of terminal.Times = binary.Times
binary_of terminal.Over = binary.Over
binary_of terminal.Rest = binary.Rest
binary_of _ = binary.And

abbrev pub unary_of : Terminal → Unary
unary_of terminal.Minus = unary.Minus
unary_of _ = unary.Not

-- item {sign item}, grouped from the left
abbrev pub joined : Tree → Token × Tree → Tree
joined left x = ABinary (binary_of (terminal_of x.0)) x.0.place left x.1

abbrev pub level : List Terminal → Form Token Tree → Form Token Tree
level signs a = chain joined a (token (among signs) then a)

-- expr = e3 {rel e3}        e3 = e2 {(+ | - | # | $ | !$) e2}        e2 = e1 {(& | << | >> | * | / | %) e1}
unfoldable pub expr_over : Form Token Tree → Form Token Tree
expr_over e1 = level relations (level sums (level products e1))

-- ---- what opens a nesting

-- ( expr )
abbrev pub paren_of : Token × (Tree × Token) → Tree
paren_of x = AParen x.0.place x.1.0

unfoldable pub paren : Form Token Tree → Form Token Tree
paren expr = made paren_of (one terminal.Open then expr then one terminal.Close)

-- member = expr | id .. id
abbrev pub span_member_of : Word × (Token × Word) → SetMember
span_member_of x = SpanMember x.0 x.1.1

unfoldable pub span_member : Form Token SetMember
span_member = made span_member_of (name then one terminal.Range then name)

abbrev pub member : Form Token Tree → Form Token SetMember
member expr = either span_member (made OneMember expr)

-- set [ext], where set = '[' member {, member} ']'
abbrev pub set_of : Token × (List SetMember × (Token × Option Token)) → Tree
set_of x = ASet x.0.place (members_of x.1.0) (extension_in x.1.1.1)

unfoldable pub set : Form Token Tree → Form Token Tree
set expr =
    made set_of
    (one terminal.Left then each_apart_by terminal.Comma (member expr) then one terminal.Right then ext)

-- (! | -) e1
abbrev pub negated_of : Token × Tree → Tree
negated_of x = AUnary (unary_of (terminal_of x.0)) x.0.place x.1

abbrev pub negations : List Terminal
negations = terminal.Not ∷ terminal.Minus ∷ []

unfoldable pub negated : Form Token Tree → Form Token Tree
negated e1 = made negated_of (token (among negations) then e1)

-- e1 = {! | -} prim        prim = ( expr ) | id [ext] | set [ext] | number | special
unfoldable pub operand : ℕ → Form Token Tree
operand zero = either nothing (either nothing (either nothing simple))
operand (suc n) =
    either (negated (operand n))
    (either (paren (expr_over (operand n))) (either (set (expr_over (operand n))) simple))

abbrev pub expr : ℕ → Form Token Tree
expr n = expr_over (operand n)

-- a set that is alone
unfoldable pub set_at : ℕ → Form Token Tree
set_at zero = nothing
set_at (suc n) = set (expr n)
