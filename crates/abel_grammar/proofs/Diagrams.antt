-- The places of transitions and diagrams lie along their tokens, at each depth of nesting.
use Rattle.std.proofs.Common.{◌≡◌, ℕ, zero, suc, Bool, true, false, List, [], ◌∷◌, ◌++◌, Option, Some, None, refl, sym, ap, ◌∙◌, option_map}
use Rattle.abel_grammar.proofs.Common.{flat_map, append_assoc, append-nil, Form, Place, Token, Tree, Statement, Branch, other_of, choices_of, BraceOpen, BraceClose, With, Endwith, If, Then, Else, Case, Endcase, Colon, Semicolon, Goto, State, StateDiagram, braced, listed_of, listed, with_part, goal, is_open_arm, else_in, if_form, choice, case_form, goal_arm, arm, is_closed, ending, leading, trans, state, diagram, places_of_some, places_of_expr, places_of_stmt, places_of_branch, places_of_other, places_of_choices, places_of_state, places_of_section}
use Rattle.abel_grammar.proofs.Forms.{Lies, dropped, followed_lies, both, behind, before, turned, or_lies, nothing_lies, some_lies, many_lies, unless_lies, takes_before, placed_lies}
use Rattle.abel_grammar.proofs.Expressions.{one_lies, end_lies, expr_lies, expr_takes}
use Rattle.abel_grammar.proofs.Statements.{stmt_lies, plain_stmt_lies}

-- ---- WITH and goals

braced_lies : (n : ℕ) → Lies (braced n) (flat_map places_of_stmt)
unfolding braced
braced_lies zero = nothing_lies
braced_lies (suc n) =
    turned (λ x. refl)
    (behind (one_lies BraceOpen) (before (many_lies (stmt_lies n)) (behind (one_lies BraceClose) (some_lies (one_lies Endwith)))))

abbrev in_first : Option (Statement × List Statement) → List Place
in_first o = places_of_some (λ x. places_of_stmt x.0 ++ flat_map places_of_stmt x.1) o

in_list : (o : Option (Statement × List Statement)) (t : Token) → flat_map places_of_stmt (listed_of (o, t)) ≡ in_first o
in_list None t = refl
in_list (Some x) t = refl

listed_lies : (n : ℕ) → Lies (listed n) (flat_map places_of_stmt)
unfolding listed
listed_lies n =
    turned (λ x. in_list x.0 x.1)
    (before (some_lies (both (plain_stmt_lies n) (many_lies (stmt_lies n)))) (one_lies Endwith))

with_lies : (n : ℕ) → Lies (with_part n) (flat_map places_of_stmt)
unfolding with_part
with_lies zero = nothing_lies
with_lies (suc n) = turned (λ x. refl) (behind (one_lies With) (or_lies (braced_lies n) (listed_lies n)))

goal_lies : (n : ℕ) → Lies (goal n) places_of_branch
unfolding goal
goal_lies n =
    turned (λ x. refl)
    (placed_lies (takes_before (expr_takes n) (some_lies (with_lies n))) (both (expr_lies n) (some_lies (with_lies n))))

-- ---- IF and CASE

in_other : (o : Option (Option Token × (Token × Branch))) → places_of_other (other_of (option_map else_in o)) ≡ places_of_some (λ x. places_of_branch x.1.1) o
in_other None = refl
in_other (Some x) = refl

abbrev in_choice : Tree × (Place × Branch) → List Place
in_choice c = places_of_expr c.0 ++ (c.1.0 ∷ places_of_branch c.1.1)

in_choices : (cs : List (Tree × (Place × Branch))) → places_of_choices (choices_of cs) ≡ flat_map in_choice cs
in_choices [] = refl
in_choices (c ∷ cs) =
    ap (λ (l : List Place). places_of_expr c.0 ++ (c.1.0 ∷ (places_of_branch c.1.1 ++ l))) (in_choices cs)
    ∙ sym (append_assoc (places_of_expr c.0) (c.1.0 ∷ places_of_branch c.1.1) (flat_map in_choice cs))

module _ {e : Form Token Tree} {a : Form Token Branch} (le : Lies e places_of_expr) (la : Lies a places_of_branch) where
  if_lies : Lies (if_form e a) places_of_branch
  unfolding if_form
  if_lies =
      turned (λ x. ap (λ (l : List Place). x.0.place ∷ (places_of_expr x.1.0 ++ (places_of_branch x.1.1.1.0 ++ l))) (in_other x.1.1.1.1))
      (both (one_lies If) (both le (behind (one_lies Then)
      (followed_lies la (λ b. unless_lies (is_open_arm b) None refl (some_lies (behind end_lies (behind (one_lies Else) la))))))))

  choice_lies : Lies (choice e a) in_choice
  unfolding choice
  choice_lies = turned (λ x. refl) (both le (both (one_lies Colon) (before la (one_lies Semicolon))))

  case_lies : Lies (case_form e a) places_of_branch
  unfolding case_form
  case_lies =
      turned (λ x. ap (λ (l : List Place). x.0.place ∷ l) (in_choices x.1.0))
      (both (one_lies Case) (before (many_lies choice_lies) (one_lies Endcase)))

goal_arm_lies : (n : ℕ) → Lies (goal_arm n) places_of_branch
unfolding goal_arm
goal_arm_lies n = turned (λ x. refl) (behind (some_lies (one_lies Goto)) (goal_lies n))

arm_lies : (n : ℕ) → Lies (arm n) places_of_branch
unfolding arm
arm_lies zero = or_lies (goal_arm_lies zero) (or_lies nothing_lies nothing_lies)
arm_lies (suc n) =
    or_lies (goal_arm_lies (suc n)) (or_lies (if_lies (expr_lies n) (arm_lies n)) (case_lies (expr_lies n) (arm_lies n)))

-- ---- transitions, states and diagrams

ending_lies : (b : Bool) → Lies (ending b) (λ _. [])
ending_lies true = end_lies
ending_lies false = turned (λ x. refl) (dropped (one_lies Semicolon))

goto_lies : (n : ℕ) → Lies (leading n) places_of_branch
unfolding leading
goto_lies zero = or_lies (turned (λ x. refl) (behind (one_lies Goto) (goal_lies zero))) (or_lies nothing_lies nothing_lies)
goto_lies (suc n) =
    or_lies (turned (λ x. refl) (behind (one_lies Goto) (goal_lies (suc n))))
    (or_lies (if_lies (expr_lies n) (arm_lies n)) (case_lies (expr_lies n) (arm_lies n)))

trans_lies : (n : ℕ) → Lies (trans n) places_of_branch
unfolding trans
trans_lies n =
    turned (λ x. sym (append-nil (places_of_branch x.0))) (followed_lies (goto_lies n) (λ b. ending_lies (is_closed b)))

state_lies : (n : ℕ) → Lies (state n) places_of_state
unfolding state
state_lies n =
    turned (λ x. refl)
    (both (one_lies State) (both (expr_lies n) (behind (one_lies Colon) (both (many_lies (stmt_lies n)) (many_lies (trans_lies n))))))

pub diagram_lies : (n : ℕ) → Lies (diagram n) places_of_section
unfolding diagram
diagram_lies n = turned (λ x. refl) (both (one_lies StateDiagram) (both (expr_lies n) (many_lies (state_lies n))))
