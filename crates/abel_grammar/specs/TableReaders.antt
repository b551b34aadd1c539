-- Truth tables and test vectors, read from left to right (a helper of the parser's own contracts).
use Rattle.std.specs.Prelude.{ℕ, zero, suc, List, [], ◌∷◌}
use Rattle.abel_grammar.specs.Prelude.{Token, RowTree, SectionTree}
use Rattle.abel_grammar.specs.Reading.{Reader, read_token, ◌then_read◌, read_optional, read_repeated, read_made, read_deep}
use Rattle.abel_grammar.specs.Further.{read_placed}
use Rattle.abel_grammar.specs.declared.terminal.Terminal.{Terminal}
use Rattle.abel_grammar.specs.declared.terminal.Terminal.TheVariants as terminal
use Rattle.abel_grammar.specs.Terminals.{among}
use Rattle.abel_grammar.specs.WordReaders.{read_one, read_text}
use Rattle.abel_grammar.specs.ExpressionReaders.{read_expr}
use Rattle.abel_grammar.specs.Tables.{arrows, plain_arrow, Sides, row_of, vector_row_of, table_of, vectors_of}

abbrev pub expr_starts : List Terminal
expr_starts = terminal.Not ∷ terminal.Minus ∷ terminal.Open ∷ terminal.Left ∷ terminal.Identifier ∷ terminal.Number ∷ terminal.Special ∷ []

unfoldable pub read_row_as : (Sides → RowTree) → List Terminal → ℕ → Reader Token RowTree
read_row_as of signs n =
    read_made of
    (read_placed (read_expr n then_read read_token (among signs) then_read read_expr n then_read read_one terminal.Semicolon))

unfoldable pub read_header_as : (Sides → RowTree) → List Terminal → ℕ → Reader Token RowTree
read_header_as of signs zero = read_deep (among (terminal.Open ∷ []))
read_header_as of signs (suc n) =
    read_made of
    (read_one terminal.Open then_read read_expr n then_read read_token (among signs) then_read read_expr n then_read read_one terminal.Close)

abbrev pub read_row : ℕ → Reader Token RowTree
read_row n = read_row_as row_of arrows n

abbrev pub read_header : ℕ → Reader Token RowTree
read_header n = read_header_as row_of arrows n

abbrev pub read_rows : ℕ → Reader Token (List RowTree)
read_rows n = read_repeated (among expr_starts) (read_row n)

unfoldable pub read_table : ℕ → Reader Token SectionTree
read_table n = read_made table_of (read_one terminal.TruthTable then_read read_header n then_read read_rows n)

abbrev pub read_vector_row : ℕ → Reader Token RowTree
read_vector_row n = read_row_as vector_row_of plain_arrow n

abbrev pub read_vector_header : ℕ → Reader Token RowTree
read_vector_header n = read_header_as vector_row_of plain_arrow n

abbrev pub read_vector_rows : ℕ → Reader Token (List RowTree)
read_vector_rows n = read_repeated (among expr_starts) (read_vector_row n)

unfoldable pub read_vectors : ℕ → Reader Token SectionTree
read_vectors n =
    read_made vectors_of
    (read_one terminal.TestVectors then_read read_optional (among (terminal.Text ∷ [])) read_text
    then_read read_vector_header n then_read read_vector_rows n)
