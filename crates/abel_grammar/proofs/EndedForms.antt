-- State diagrams with each arm and the `;` after it: a form that the next token decides.
use Rattle.std.proofs.Common.{ℕ, zero, suc, Bool, true, false, ◌||◌, None, is_some}
use Rattle.abel_grammar.proofs.Common.{Form, ◌then◌, followed, either, optional, repeated, made, nothing, given, unless, Place, Token, Tree, Branch, one, end, expr, goal, behind_goto, behind_word, is_open_arm, is_closed, Ended, if_ended_of, choice_ended_of, case_ended_of, branch_in}
use Rattle.abel_grammar.specs.declared.terminal.Terminal.TheVariants as terminal

-- nothing more, if that is allowed
abbrev pub allowed : Bool → Form Token (Unit {0})
allowed true = given tt
allowed false = nothing

unfoldable pub if_ended : Form Token Tree → Form Token Ended → Form Token Ended
if_ended e ended =
    made if_ended_of
    (one terminal.If then e then one terminal.Then
    then followed ended (λ b. unless (is_open_arm b.0) None (optional (one terminal.Else then ended))))

unfoldable pub choice_ended : Form Token Tree → Form Token Ended → Form Token (Tree × (Place × Branch))
choice_ended e ended =
    made choice_ended_of (e then one terminal.Colon then followed ended (λ b. allowed (is_some b.1)))

unfoldable pub case_ended : Form Token Tree → Form Token Ended → Form Token Ended
case_ended e ended =
    made case_ended_of (one terminal.Case then repeated (choice_ended e ended) then one terminal.Endcase then end)

unfoldable pub goal_ended : ℕ → Form Token Ended
goal_ended n = made behind_goto (optional (one terminal.Goto) then goal n) then end

unfoldable pub arm_ended : ℕ → Form Token Ended
arm_ended zero = either (goal_ended zero) (either nothing nothing)
arm_ended (suc n) =
    either (goal_ended (suc n)) (either (if_ended (expr n) (arm_ended n)) (case_ended (expr n) (arm_ended n)))

unfoldable pub goto_ended : ℕ → Form Token Ended
goto_ended n = made behind_word (one terminal.Goto then goal n) then end

unfoldable pub leading_ended : ℕ → Form Token Ended
leading_ended zero = either (goto_ended zero) (either nothing nothing)
leading_ended (suc n) =
    either (goto_ended (suc n)) (either (if_ended (expr n) (arm_ended n)) (case_ended (expr n) (arm_ended n)))

unfoldable pub trans_ended : ℕ → Form Token Branch
trans_ended n = made branch_in (followed (leading_ended n) (λ b. allowed (is_closed b.0 || is_some b.1)))
