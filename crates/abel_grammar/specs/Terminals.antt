-- The terminals of the grammar (ABEL-HDL Reference Manual, language elements).
use Rattle.std.specs.Prelude.{ℕ, Bool, List, [], ◌∷◌, codes, if◌then◌else◌}
use Rattle.abel_grammar.specs.Prelude.{bytes_eq, str_eq_ignore_ascii_case, Token}
use Rattle.abel_lexer.specs.declared.token.TokenKind.{TokenKind}
use Rattle.abel_lexer.specs.declared.token.TokenKind.TheVariants as kind
use Rattle.abel_grammar.specs.declared.terminal.Terminal.{Terminal}
use Rattle.abel_grammar.specs.declared.terminal.Terminal.TheVariants as terminal
use Rattle.abel_grammar.specs.Classes as classes

-- the number of a terminal
abbrev pub number_of : Terminal → ℕ
number_of terminal.Identifier = 0
number_of terminal.Number = 1
number_of terminal.Special = 2
number_of terminal.Extension = 3
number_of terminal.Text = 4
number_of terminal.DontCare = 5
number_of terminal.Case = 6
number_of terminal.Declarations = 7
number_of terminal.Device = 8
number_of terminal.Else = 9
number_of terminal.End = 10
number_of terminal.Endcase = 11
number_of terminal.Endwith = 12
number_of terminal.Equations = 13
number_of terminal.Flag = 14
number_of terminal.Goto = 15
number_of terminal.If = 16
number_of terminal.Istype = 17
number_of terminal.Module = 18
number_of terminal.Node = 19
number_of terminal.Options = 20
number_of terminal.Pin = 21
number_of terminal.State = 22
number_of terminal.StateDiagram = 23
number_of terminal.TestVectors = 24
number_of terminal.Then = 25
number_of terminal.Title = 26
number_of terminal.TruthTable = 27
number_of terminal.When = 28
number_of terminal.With = 29
number_of terminal.Open = 30
number_of terminal.Close = 31
number_of terminal.Left = 32
number_of terminal.Right = 33
number_of terminal.BraceOpen = 34
number_of terminal.BraceClose = 35
number_of terminal.Comma = 36
number_of terminal.Semicolon = 37
number_of terminal.Colon = 38
number_of terminal.Equal = 39
number_of terminal.Clocked = 40
number_of terminal.Any = 41
number_of terminal.ClockedAny = 42
number_of terminal.Not = 43
number_of terminal.And = 44
number_of terminal.Or = 45
number_of terminal.Xor = 46
number_of terminal.Xnor = 47
number_of terminal.Plus = 48
number_of terminal.Minus = 49
number_of terminal.Times = 50
number_of terminal.Over = 51
number_of terminal.Rest = 52
number_of terminal.ShiftLeft = 53
number_of terminal.ShiftRight = 54
number_of terminal.IsEqual = 55
number_of terminal.Unequal = 56
number_of terminal.Less = 57
number_of terminal.LessEqual = 58
number_of terminal.Greater = 59
number_of terminal.GreaterEqual = 60
number_of terminal.Arrow = 61
number_of terminal.ClockedArrow = 62
number_of terminal.Range = 63
number_of terminal.Other = 64

-- the terminal that the list has for a word
abbrev pub look_up : (List ℕ → Bool) → List (List ℕ × Terminal) → Terminal
look_up same [] = terminal.Other
look_up same (entry ∷ more) = if same entry.0 then entry.1 else look_up same more

-- the keywords
abbrev pub keywords : List (List ℕ × Terminal)
keywords =
    (codes "case", terminal.Case)
    ∷ (codes "declarations", terminal.Declarations)
    ∷ (codes "device", terminal.Device)
    ∷ (codes "else", terminal.Else)
    ∷ (codes "end", terminal.End)
    ∷ (codes "endcase", terminal.Endcase)
    ∷ (codes "endwith", terminal.Endwith)
    ∷ (codes "equations", terminal.Equations)
    ∷ (codes "flag", terminal.Flag)
    ∷ (codes "goto", terminal.Goto)
    ∷ (codes "if", terminal.If)
    ∷ (codes "istype", terminal.Istype)
    ∷ (codes "module", terminal.Module)
    ∷ (codes "node", terminal.Node)
    ∷ (codes "options", terminal.Options)
    ∷ (codes "pin", terminal.Pin)
    ∷ (codes "state", terminal.State)
    ∷ (codes "state_diagram", terminal.StateDiagram)
    ∷ (codes "test_vectors", terminal.TestVectors)
    ∷ (codes "then", terminal.Then)
    ∷ (codes "title", terminal.Title)
    ∷ (codes "truth_table", terminal.TruthTable)
    ∷ (codes "when", terminal.When)
    ∷ (codes "with", terminal.With) ∷ []

-- the signs
abbrev pub signs : List (List ℕ × Terminal)
signs =
    (codes "(", terminal.Open)
    ∷ (codes ")", terminal.Close)
    ∷ (codes "[", terminal.Left)
    ∷ (codes "]", terminal.Right)
    ∷ (codes "{", terminal.BraceOpen)
    ∷ (codes "}", terminal.BraceClose)
    ∷ (codes ",", terminal.Comma)
    ∷ (codes ";", terminal.Semicolon)
    ∷ (codes ":", terminal.Colon)
    ∷ (codes "=", terminal.Equal)
    ∷ (codes ":=", terminal.Clocked)
    ∷ (codes "?=", terminal.Any)
    ∷ (codes "?:=", terminal.ClockedAny)
    ∷ (codes "!", terminal.Not)
    ∷ (codes "&", terminal.And)
    ∷ (codes "#", terminal.Or)
    ∷ (codes "$", terminal.Xor)
    ∷ (codes "!$", terminal.Xnor)
    ∷ (codes "+", terminal.Plus)
    ∷ (codes "-", terminal.Minus)
    ∷ (codes "*", terminal.Times)
    ∷ (codes "/", terminal.Over)
    ∷ (codes "%", terminal.Rest)
    ∷ (codes "<<", terminal.ShiftLeft)
    ∷ (codes ">>", terminal.ShiftRight)
    ∷ (codes "==", terminal.IsEqual)
    ∷ (codes "!=", terminal.Unequal)
    ∷ (codes "<", terminal.Less)
    ∷ (codes "<=", terminal.LessEqual)
    ∷ (codes ">", terminal.Greater)
    ∷ (codes ">=", terminal.GreaterEqual)
    ∷ (codes "->", terminal.Arrow)
    ∷ (codes ":>", terminal.ClockedArrow)
    ∷ (codes "..", terminal.Range) ∷ []

-- the keyword that a word is, without regard to case
abbrev pub keyword_of : List ℕ → Terminal
keyword_of word = look_up (str_eq_ignore_ascii_case word) keywords

-- the sign that a word is
abbrev pub sign_of : List ℕ → Terminal
sign_of word = look_up (bytes_eq word) signs

-- the terminal that a word of a kind is
abbrev pub terminal_by : TokenKind → List ℕ → Terminal
terminal_by kind.Identifier word = terminal.Identifier
terminal_by kind.Number word = terminal.Number
terminal_by kind.Special word = terminal.Special
terminal_by kind.Extension word = terminal.Extension
terminal_by kind.Text word = terminal.Text
terminal_by kind.Directive word = terminal.DontCare
terminal_by kind.Keyword word = keyword_of word
terminal_by kind.Sign word = sign_of word

-- the terminal that a token is
unfoldable pub terminal_of : Token → Terminal
terminal_of token = terminal_by token.kind token.text

-- whether the token is one of these terminals
abbrev pub among : List Terminal → Token → Bool
among terminals token = classes.among number_of terminal_of terminals token
