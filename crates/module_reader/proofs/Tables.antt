-- Each front of the tokens of a truth table or of test vectors begins them, at each depth of nesting.
use Rattle.std.proofs.Common.{ℕ, zero, suc, List}
use Rattle.module_reader.proofs.Common.{RowTree, Terminal, Open, Close, Semicolon, TruthTable, TestVectors, takes_token, takes_behind}
use Rattle.abel_grammar.specs.Tables.{Sides, row_as, header_as, table, vectors}
use Rattle.module_reader.proofs.Forms.{Begun, token_begun, then_begun, made_begun, nothing_begun, some_begun, many_begun, lies, placed_begun}
use Rattle.module_reader.proofs.Expressions.{one_begun, text_begun, expr_begun}

row_begun : (of : Sides → RowTree) (signs : List Terminal) (n : ℕ) → Begun (row_as of signs n)
unfolding row_as
row_begun of signs n =
    made_begun
    (placed_begun (takes_behind (lies (expr_begun n)) (takes_behind (lies (token_begun _)) (takes_behind (lies (expr_begun n)) (takes_token _))))
    (then_begun (expr_begun n) (then_begun (token_begun _) (then_begun (expr_begun n) (one_begun Semicolon)))))

header_begun : (of : Sides → RowTree) (signs : List Terminal) (n : ℕ) → Begun (header_as of signs n)
unfolding header_as
header_begun of signs zero = nothing_begun
header_begun of signs (suc n) =
    made_begun
    (then_begun (one_begun Open) (then_begun (expr_begun n) (then_begun (token_begun _) (then_begun (expr_begun n) (one_begun Close)))))

pub table_begun : (n : ℕ) → Begun (table n)
unfolding table
table_begun n = made_begun (then_begun (one_begun TruthTable) (then_begun (header_begun _ _ n) (many_begun (row_begun _ _ n))))

pub vectors_begun : (n : ℕ) → Begun (vectors n)
unfolding vectors
vectors_begun n =
    made_begun
    (then_begun (one_begun TestVectors) (then_begun (some_begun text_begun) (then_begun (header_begun _ _ n) (many_begun (row_begun _ _ n)))))
