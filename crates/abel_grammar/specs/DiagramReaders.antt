-- State diagrams, read from left to right: an arm is read with the `;` after it, so that no look past the
-- next token is needed (a helper of the parser's own contracts).
use Rattle.std.specs.Prelude.{ℕ, zero, suc, Bool, true, false, ◌||◌, List, [], ◌∷◌, Option, None, Some, is_some}
use Rattle.abel_grammar.specs.Prelude.{Place, Token, Tree, Statement, Branch, StateTree, SectionTree}
use Rattle.abel_grammar.specs.Reading.{Reader, read_followed, ◌then_read◌, read_either, read_optional, read_repeated, read_made, read_deep, read_given}
use Rattle.abel_grammar.specs.Further.{read_placed, read_unless, read_nothing}
use Rattle.abel_grammar.specs.declared.terminal.Terminal.{Terminal}
use Rattle.abel_grammar.specs.declared.terminal.Terminal.TheVariants as terminal
use Rattle.abel_grammar.specs.Terminals.{among}
use Rattle.abel_grammar.specs.WordReaders.{read_one, read_end}
use Rattle.abel_grammar.specs.ExpressionReaders.{read_expr}
use Rattle.abel_grammar.specs.StatementReaders.{read_stmt, read_stmts, read_plain_stmt, plain_starts}
use Rattle.abel_grammar.specs.TableReaders.{expr_starts}
use Rattle.abel_grammar.specs.Diagrams.{braced_of, listed_of, with_of, goal_of, behind_goto, behind_word, is_open_arm, if_of, case_of, is_closed, state_of, diagram_of}

unfoldable pub read_braced : ℕ → Reader Token (List Statement)
read_braced zero = read_deep (among (terminal.BraceOpen ∷ []))
read_braced (suc n) =
    read_made braced_of
    (read_one terminal.BraceOpen then_read read_stmts (read_stmt n) then_read read_one terminal.BraceClose
    then_read read_optional (among (terminal.Endwith ∷ [])) (read_one terminal.Endwith))

unfoldable pub read_listed : ℕ → Reader Token (List Statement)
read_listed n =
    read_made listed_of
    (read_optional (among plain_starts) (read_plain_stmt n then_read read_stmts (read_stmt n)) then_read read_one terminal.Endwith)

unfoldable pub read_with_part : ℕ → Reader Token (List Statement)
read_with_part zero = read_deep (among (terminal.With ∷ []))
read_with_part (suc n) =
    read_made with_of
    (read_one terminal.With then_read read_either (among (terminal.BraceOpen ∷ [])) (read_braced n) (read_listed n))

unfoldable pub read_goal : ℕ → Reader Token Branch
read_goal n =
    read_made goal_of
    (read_placed (read_expr n then_read read_optional (among (terminal.With ∷ [])) (read_with_part n)))

-- ---- an arm and the `;` after it, if there is one

-- an arm, and its `;`
abbrev pub Ended : Type 0
Ended = Branch × Option Token

-- IF expr THEN arm [;] [ELSE arm [;]]: the last `;` is the one after it
abbrev pub if_ended_of : Token × (Tree × (Token × (Ended × Option (Token × Ended)))) → Ended
if_ended_of (w, (c, (t, ((b, s), None)))) = (if_of (w, (c, (t, (b, None)))), s)
if_ended_of (w, (c, (t, ((b, s), Some (e, (a, z)))))) = (if_of (w, (c, (t, (b, Some (s, (e, a)))))), z)

abbrev pub choice_ended_of : Tree × (Token × (Ended × Unit {0})) → Tree × (Place × Branch)
choice_ended_of x = (x.0, (x.1.0.place, x.1.1.0.0))

abbrev pub case_ended_of : Token × (List (Tree × (Place × Branch)) × (Token × Option Token)) → Ended
case_ended_of x = (case_of (x.0, (x.1.0, x.1.1.0)), x.1.1.1)

abbrev pub branch_in : Ended × Unit {0} → Branch
branch_in x = x.0.0

abbrev pub read_allowed : Bool → Reader Token (Unit {0})
read_allowed true = read_given tt
read_allowed false = read_nothing

unfoldable pub read_if : Reader Token Tree → Reader Token Ended → Reader Token Ended
read_if e ended =
    read_made if_ended_of
    (read_one terminal.If then_read e then_read read_one terminal.Then
    then_read read_followed ended (λ b. read_unless (is_open_arm b.0) None (read_optional (among (terminal.Else ∷ [])) (read_one terminal.Else then_read ended))))

unfoldable pub read_choice : Reader Token Tree → Reader Token Ended → Reader Token (Tree × (Place × Branch))
read_choice e ended =
    read_made choice_ended_of (e then_read read_one terminal.Colon then_read read_followed ended (λ b. read_allowed (is_some b.1)))

abbrev pub read_choices : Reader Token Tree → Reader Token Ended → Reader Token (List (Tree × (Place × Branch)))
read_choices e ended = read_repeated (among expr_starts) (read_choice e ended)

unfoldable pub read_case : Reader Token Tree → Reader Token Ended → Reader Token Ended
read_case e ended =
    read_made case_ended_of
    (read_one terminal.Case then_read read_choices e ended then_read read_one terminal.Endcase then_read read_end)

unfoldable pub read_goal_arm : ℕ → Reader Token Ended
read_goal_arm n =
    read_made behind_goto (read_optional (among (terminal.Goto ∷ [])) (read_one terminal.Goto) then_read read_goal n)
    then_read read_end

abbrev pub goal_starts : List Terminal
goal_starts = terminal.Goto ∷ terminal.Not ∷ terminal.Minus ∷ terminal.Open ∷ terminal.Left ∷ terminal.Identifier ∷ terminal.Number ∷ terminal.Special ∷ []

unfoldable pub read_arm : ℕ → Reader Token Ended
read_arm zero =
    read_either (among goal_starts) (read_goal_arm zero)
    (read_either (among (terminal.If ∷ [])) (read_deep (among (terminal.If ∷ []))) (read_deep (among (terminal.Case ∷ []))))
read_arm (suc n) =
    read_either (among goal_starts) (read_goal_arm (suc n))
    (read_either (among (terminal.If ∷ [])) (read_if (read_expr n) (read_arm n)) (read_case (read_expr n) (read_arm n)))

-- ---- transitions and states

unfoldable pub read_goto : ℕ → Reader Token Ended
read_goto n = read_made behind_word (read_one terminal.Goto then_read read_goal n) then_read read_end

unfoldable pub read_leading : ℕ → Reader Token Ended
read_leading zero =
    read_either (among (terminal.Goto ∷ [])) (read_goto zero)
    (read_either (among (terminal.If ∷ [])) (read_deep (among (terminal.If ∷ []))) (read_deep (among (terminal.Case ∷ []))))
read_leading (suc n) =
    read_either (among (terminal.Goto ∷ [])) (read_goto (suc n))
    (read_either (among (terminal.If ∷ [])) (read_if (read_expr n) (read_arm n)) (read_case (read_expr n) (read_arm n)))

unfoldable pub read_trans : ℕ → Reader Token Branch
read_trans n = read_made branch_in (read_followed (read_leading n) (λ b. read_allowed (is_closed b.0 || is_some b.1)))

abbrev pub trans_starts : List Terminal
trans_starts = terminal.Goto ∷ terminal.If ∷ terminal.Case ∷ []

unfoldable pub read_state : ℕ → Reader Token StateTree
read_state n =
    read_made state_of
    (read_one terminal.State then_read read_expr n then_read read_one terminal.Colon
    then_read read_stmts (read_stmt n) then_read read_repeated (among trans_starts) (read_trans n))

unfoldable pub read_diagram : ℕ → Reader Token SectionTree
read_diagram n =
    read_made diagram_of
    (read_one terminal.StateDiagram then_read read_expr n then_read read_repeated (among (terminal.State ∷ [])) (read_state n))
