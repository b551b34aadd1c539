-- Truth tables and test vectors (ABEL-HDL Reference Manual, truth tables and test vectors), and how they are
-- read.
use Rattle.std.specs.Prelude.{ℕ, zero, suc, Bool, true, false, List, [], ◌∷◌, Option}
use Rattle.abel_grammar.specs.Prelude.{Token, Word, Tree, RowTree, SectionTree, ATable, SomeVectors}
use Rattle.abel_grammar.specs.Form.{Form, token, ◌then◌, optional, repeated, made, nothing}
use Rattle.abel_grammar.specs.Further.{placed}
use Rattle.abel_grammar.specs.declared.terminal.Terminal.{Terminal}
use Rattle.abel_grammar.specs.declared.terminal.Terminal.TheVariants as terminal
use Rattle.abel_grammar.specs.Terminals.{among, terminal_of}
use Rattle.abel_grammar.specs.Words.{one, text}
use Rattle.abel_grammar.specs.Expressions.{expr}

-- arrow = '->' | ':>'
abbrev pub arrows : List Terminal
arrows = terminal.Arrow ∷ terminal.ClockedArrow ∷ []

abbrev pub plain_arrow : List Terminal
plain_arrow = terminal.Arrow ∷ []

abbrev pub is_clocked : Terminal → Bool
is_clocked terminal.ClockedArrow = true
is_clocked _ = false

-- a row's or a header's first token, inputs, arrow, outputs and last token
abbrev pub Sides : Type 0
Sides = Token × (Tree × (Token × (Tree × Token)))

abbrev pub row_of : Sides → RowTree
row_of x = record { place = x.0.place; inputs = x.1.0; clocked = is_clocked (terminal_of x.1.1.0); outputs = x.1.1.1.0 }

-- vectors have one arrow alone, which says nothing of a clock
abbrev pub vector_row_of : Sides → RowTree
vector_row_of x = record { place = x.0.place; inputs = x.1.0; clocked = false; outputs = x.1.1.1.0 }

-- expr sign expr ;
unfoldable pub row_as : (Sides → RowTree) → List Terminal → ℕ → Form Token RowTree
row_as of signs n = made of (placed (expr n then token (among signs) then expr n then one terminal.Semicolon))

-- ( expr sign expr )        the `(` is a nesting
unfoldable pub header_as : (Sides → RowTree) → List Terminal → ℕ → Form Token RowTree
header_as of signs zero = nothing
header_as of signs (suc n) =
    made of (one terminal.Open then expr n then token (among signs) then expr n then one terminal.Close)

-- row = expr arrow expr ;
abbrev pub row : ℕ → Form Token RowTree
row n = row_as row_of arrows n

abbrev pub header : ℕ → Form Token RowTree
header n = header_as row_of arrows n

-- table = TRUTH_TABLE ( expr arrow expr ) {row}
abbrev pub table_of : Token × (RowTree × List RowTree) → SectionTree
table_of x = ATable x.0.place x.1.0.inputs x.1.0.clocked x.1.0.outputs x.1.1

unfoldable pub table : ℕ → Form Token SectionTree
table n = made table_of (one terminal.TruthTable then header n then repeated (row n))

-- expr -> expr ;
abbrev pub vector_row : ℕ → Form Token RowTree
vector_row n = row_as vector_row_of plain_arrow n

abbrev pub vector_header : ℕ → Form Token RowTree
vector_header n = header_as vector_row_of plain_arrow n

-- vectors = TEST_VECTORS [string] ( expr -> expr ) {expr -> expr ;}        their place is the `(`
abbrev pub vectors_of : Token × (Option Word × (RowTree × List RowTree)) → SectionTree
vectors_of x = SomeVectors x.1.0 x.1.1.0.place x.1.1.0.inputs x.1.1.0.outputs x.1.1.1

unfoldable pub vectors : ℕ → Form Token SectionTree
vectors n =
    made vectors_of
    (one terminal.TestVectors then optional text then vector_header n then repeated (vector_row n))
