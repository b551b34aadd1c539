-- Statements, read from left to right (a helper of the parser's own contracts).
use Rattle.std.specs.Prelude.{ℕ, zero, suc, Bool, List, [], ◌∷◌, None}
use Rattle.abel_grammar.specs.Prelude.{Token, Tree, Statement, ADontCare}
use Rattle.abel_grammar.specs.Reading.{Reader, read_token, read_followed, ◌then_read◌, read_either, read_optional, read_repeated, read_made, read_deep}
use Rattle.abel_grammar.specs.Further.{read_placed, read_unless}
use Rattle.abel_grammar.specs.declared.terminal.Terminal.{Terminal}
use Rattle.abel_grammar.specs.declared.terminal.Terminal.TheVariants as terminal
use Rattle.abel_grammar.specs.Terminals.{among}
use Rattle.abel_grammar.specs.WordReaders.{read_one, read_end, read_dont_care}
use Rattle.abel_grammar.specs.ExpressionReaders.{read_name_tree, read_expr, read_set_at}
use Rattle.abel_grammar.specs.Statements.{assigns, plain_of, complemented_of, assign_of, is_open, when_of, group_of}

unfoldable pub read_bare_target : ℕ → Reader Token Tree
read_bare_target n = read_either (among (terminal.Identifier ∷ [])) read_name_tree (read_set_at n)

unfoldable pub read_complemented_at : ℕ → Reader Token (Bool × Tree)
read_complemented_at zero = read_deep (among (terminal.Not ∷ []))
read_complemented_at (suc n) = read_made complemented_of (read_one terminal.Not then_read read_bare_target n)

unfoldable pub read_target : ℕ → Reader Token (Bool × Tree)
read_target n =
    read_either (among (terminal.Not ∷ [])) (read_complemented_at n) (read_made plain_of (read_bare_target n))

unfoldable pub read_assign : ℕ → Reader Token Statement
read_assign n =
    read_made assign_of
    (read_placed (read_target n then_read read_token (among assigns) then_read read_expr n then_read read_one terminal.Semicolon))

unfoldable pub read_dont_care_stmt : Reader Token Statement
read_dont_care_stmt = read_made ADontCare read_dont_care

unfoldable pub read_when : Reader Token Tree → Reader Token Statement → Reader Token Statement
read_when e stmt =
    read_made when_of
    (read_one terminal.When then_read e then_read read_one terminal.Then
    then_read read_followed stmt (λ s. read_unless (is_open s) None (read_optional (among (terminal.Else ∷ [])) (read_one terminal.Else then_read stmt))))

-- what an assignment, a statement that is no group, and a statement may start with
abbrev pub assign_starts : List Terminal
assign_starts = terminal.Not ∷ terminal.Identifier ∷ terminal.Left ∷ []

abbrev pub plain_starts : List Terminal
plain_starts = terminal.Not ∷ terminal.Identifier ∷ terminal.Left ∷ terminal.DontCare ∷ terminal.When ∷ []

abbrev pub stmt_starts : List Terminal
stmt_starts = terminal.Not ∷ terminal.Identifier ∷ terminal.Left ∷ terminal.DontCare ∷ terminal.When ∷ terminal.BraceOpen ∷ []

-- as many statements as are there
abbrev pub read_stmts : Reader Token Statement → Reader Token (List Statement)
read_stmts stmt = read_repeated (among stmt_starts) stmt

unfoldable pub read_group : Reader Token Statement → Reader Token Statement
read_group stmt =
    read_made group_of
    (read_one terminal.BraceOpen then_read read_stmts stmt then_read read_one terminal.BraceClose then_read read_end)

unfoldable pub read_stmt : ℕ → Reader Token Statement
read_stmt zero =
    read_either (among plain_starts)
    (read_either (among assign_starts) (read_assign zero)
    (read_either (among (terminal.DontCare ∷ [])) read_dont_care_stmt (read_deep (among (terminal.When ∷ [])))))
    (read_deep (among (terminal.BraceOpen ∷ [])))
read_stmt (suc n) =
    read_either (among plain_starts)
    (read_either (among assign_starts) (read_assign (suc n))
    (read_either (among (terminal.DontCare ∷ [])) read_dont_care_stmt (read_when (read_expr n) (read_stmt n))))
    (read_group (read_stmt n))

unfoldable pub read_plain_stmt : ℕ → Reader Token Statement
read_plain_stmt zero =
    read_either (among assign_starts) (read_assign zero)
    (read_either (among (terminal.DontCare ∷ [])) read_dont_care_stmt (read_deep (among (terminal.When ∷ []))))
read_plain_stmt (suc n) =
    read_either (among assign_starts) (read_assign (suc n))
    (read_either (among (terminal.DontCare ∷ [])) read_dont_care_stmt (read_when (read_expr n) (read_stmt n)))
