-- Each front of the tokens of a transition or a diagram begins it, at each depth of nesting.
use Rattle.std.proofs.Common.{ℕ, zero, suc, Bool, true, false, None}
use Rattle.module_reader.proofs.Common.{Form, Token, Tree, Branch, BraceOpen, BraceClose, With, Endwith, If, Then, Else, Case, Endcase, Colon, Semicolon, Goto, State, StateDiagram, takes_before}
use Rattle.abel_grammar.specs.Diagrams.{braced, listed, with_part, goal, is_open_arm, if_form, choice, case_form, goal_arm, arm, is_closed, ending, leading, trans, state, diagram}
use Rattle.abel_grammar.proofs.Expressions.{expr_takes}
use Rattle.module_reader.proofs.Forms.{Begun, followed_begun, then_begun, made_begun, or_begun, nothing_begun, some_begun, unless_begun, many_begun, lies, placed_begun}
use Rattle.module_reader.proofs.Expressions.{one_begun, end_begun, expr_begun}
use Rattle.module_reader.proofs.Statements.{stmt_begun, plain_stmt_begun}

-- ---- WITH and goals

braced_begun : (n : ℕ) → Begun (braced n)
unfolding braced
braced_begun zero = nothing_begun
braced_begun (suc n) =
    made_begun
    (then_begun (one_begun BraceOpen) (then_begun (many_begun (stmt_begun n)) (then_begun (one_begun BraceClose) (some_begun (one_begun Endwith)))))

listed_begun : (n : ℕ) → Begun (listed n)
unfolding listed
listed_begun n =
    made_begun (then_begun (some_begun (then_begun (plain_stmt_begun n) (many_begun (stmt_begun n)))) (one_begun Endwith))

with_begun : (n : ℕ) → Begun (with_part n)
unfolding with_part
with_begun zero = nothing_begun
with_begun (suc n) = made_begun (then_begun (one_begun With) (or_begun (braced_begun n) (listed_begun n)))

goal_begun : (n : ℕ) → Begun (goal n)
unfolding goal
goal_begun n =
    made_begun
    (placed_begun (takes_before (expr_takes n) (lies (some_begun (with_begun n)))) (then_begun (expr_begun n) (some_begun (with_begun n))))

-- ---- IF and CASE

module _ {e : Form Token Tree} {a : Form Token Branch} (le : Begun e) (la : Begun a) where
  if_begun : Begun (if_form e a)
  unfolding if_form
  if_begun =
      made_begun
      (then_begun (one_begun If) (then_begun le (then_begun (one_begun Then)
      (followed_begun la (λ b. unless_begun (is_open_arm b) None (some_begun (then_begun end_begun (then_begun (one_begun Else) la))))))))

  choice_begun : Begun (choice e a)
  unfolding choice
  choice_begun = made_begun (then_begun le (then_begun (one_begun Colon) (then_begun la (one_begun Semicolon))))

  case_begun : Begun (case_form e a)
  unfolding case_form
  case_begun = made_begun (then_begun (one_begun Case) (then_begun (many_begun choice_begun) (one_begun Endcase)))

goal_arm_begun : (n : ℕ) → Begun (goal_arm n)
unfolding goal_arm
goal_arm_begun n = made_begun (then_begun (some_begun (one_begun Goto)) (goal_begun n))

arm_begun : (n : ℕ) → Begun (arm n)
unfolding arm
arm_begun zero = or_begun (goal_arm_begun zero) (or_begun nothing_begun nothing_begun)
arm_begun (suc n) =
    or_begun (goal_arm_begun (suc n)) (or_begun (if_begun (expr_begun n) (arm_begun n)) (case_begun (expr_begun n) (arm_begun n)))

-- ---- transitions, states and diagrams

ending_begun : (b : Bool) → Begun (ending b)
ending_begun true = end_begun
ending_begun false = made_begun (one_begun Semicolon)

leading_begun : (n : ℕ) → Begun (leading n)
unfolding leading
leading_begun zero = or_begun (made_begun (then_begun (one_begun Goto) (goal_begun zero))) (or_begun nothing_begun nothing_begun)
leading_begun (suc n) =
    or_begun (made_begun (then_begun (one_begun Goto) (goal_begun (suc n))))
    (or_begun (if_begun (expr_begun n) (arm_begun n)) (case_begun (expr_begun n) (arm_begun n)))

trans_begun : (n : ℕ) → Begun (trans n)
unfolding trans
trans_begun n = made_begun (followed_begun (leading_begun n) (λ b. ending_begun (is_closed b)))

state_begun : (n : ℕ) → Begun (state n)
unfolding state
state_begun n =
    made_begun
    (then_begun (one_begun State) (then_begun (expr_begun n) (then_begun (one_begun Colon) (then_begun (many_begun (stmt_begun n)) (many_begun (trans_begun n))))))

pub diagram_begun : (n : ℕ) → Begun (diagram n)
unfolding diagram
diagram_begun n = made_begun (then_begun (one_begun StateDiagram) (then_begun (expr_begun n) (many_begun (state_begun n))))
