-- State diagrams (ABEL-HDL Reference Manual, state diagrams, IF, CASE, GOTO and WITH).
use Rattle.std.specs.Prelude.{ℕ, zero, suc, Bool, true, false, ◌||◌, List, [], ◌∷◌, Option, None, Some, is_some, option_map}
use Rattle.abel_grammar.specs.Prelude.{Place, Token, Tree, Statement, Branch, AGoal, AnIf, ACase, OtherBranch, NoBranch, ABranch, other_of, choices_of, StateTree, SectionTree, ADiagram}
use Rattle.abel_grammar.specs.Form.{Form, ◌then◌, followed, either, optional, repeated, made, nothing}
use Rattle.abel_grammar.specs.Further.{placed, unless}
use Rattle.abel_grammar.specs.declared.terminal.Terminal.TheVariants as terminal
use Rattle.abel_grammar.specs.Words.{one, end}
use Rattle.abel_grammar.specs.Expressions.{expr}
use Rattle.abel_grammar.specs.Statements.{stmt, plain_stmt}

-- { {stmt} } [ENDWITH]        a nesting of its own within WITH
abbrev pub braced_of : Token × (List Statement × (Token × Option Token)) → List Statement
braced_of x = x.1.0

unfoldable pub braced : ℕ → Form Token (List Statement)
braced zero = nothing
braced (suc n) =
    made braced_of
    (one terminal.BraceOpen then repeated (stmt n) then one terminal.BraceClose then optional (one terminal.Endwith))

-- {stmt} ENDWITH, if the first statement is no group
abbrev pub listed_of : Option (Statement × List Statement) × Token → List Statement
listed_of (None, t) = []
listed_of (Some (s, ss), t) = s ∷ ss

unfoldable pub listed : ℕ → Form Token (List Statement)
listed n = made listed_of (optional (plain_stmt n then repeated (stmt n)) then one terminal.Endwith)

-- with = WITH {stmt} ENDWITH | WITH { {stmt} } [ENDWITH]
abbrev pub with_of : Token × List Statement → List Statement
with_of x = x.1

unfoldable pub with_part : ℕ → Form Token (List Statement)
with_part zero = nothing
with_part (suc n) = made with_of (one terminal.With then either (braced n) (listed n))

-- goal = expr [with]
abbrev pub goal_of : Token × (Tree × Option (List Statement)) → Branch
goal_of x = AGoal x.0.place x.1.0 x.1.1

unfoldable pub goal : ℕ → Form Token Branch
goal n = made goal_of (placed (expr n then optional (with_part n)))

abbrev pub behind_goto : Option Token × Branch → Branch
behind_goto x = x.1

abbrev pub behind_word : Token × Branch → Branch
behind_word x = x.1

-- Whether an ELSE after the arm would belong to an IF in it. (No arm that is spelled has an open one before
-- its own ELSE.)
abbrev mutual
  pub is_open_arm : Branch → Bool
  is_open_arm (AGoal p v w) = false
  is_open_arm (AnIf p c b o) = is_open_other o (is_open_arm b)
  is_open_arm (ACase p c) = false

  pub is_open_other : OtherBranch → Bool → Bool
  is_open_other NoBranch b = true
  is_open_other (ABranch a) b = b || is_open_arm a

-- if = IF expr THEN arm [[;] ELSE arm], if an ELSE belongs to the nearest IF that has none
abbrev pub else_in : Option Token × (Token × Branch) → Branch
else_in x = x.1.1

abbrev pub if_of : Token × (Tree × (Token × (Branch × Option (Option Token × (Token × Branch))))) → Branch
if_of x = AnIf x.0.place x.1.0 x.1.1.1.0 (other_of (option_map else_in x.1.1.1.1))

unfoldable pub if_form : Form Token Tree → Form Token Branch → Form Token Branch
if_form e arm =
    made if_of
    (one terminal.If then e then one terminal.Then
    then followed arm (λ b. unless (is_open_arm b) None (optional (end then one terminal.Else then arm))))

-- case = CASE {expr : arm ;} ENDCASE
abbrev pub choice_of : Tree × (Token × (Branch × Token)) → Tree × (Place × Branch)
choice_of x = (x.0, (x.1.0.place, x.1.1.0))

unfoldable pub choice : Form Token Tree → Form Token Branch → Form Token (Tree × (Place × Branch))
choice e arm = made choice_of (e then one terminal.Colon then arm then one terminal.Semicolon)

abbrev pub case_of : Token × (List (Tree × (Place × Branch)) × Token) → Branch
case_of x = ACase x.0.place (choices_of x.1.0)

unfoldable pub case_form : Form Token Tree → Form Token Branch → Form Token Branch
case_form e arm = made case_of (one terminal.Case then repeated (choice e arm) then one terminal.Endcase)

-- arm = [GOTO] goal | if | case
unfoldable pub goal_arm : ℕ → Form Token Branch
goal_arm n = made behind_goto (optional (one terminal.Goto) then goal n)

unfoldable pub arm : ℕ → Form Token Branch
arm zero = either (goal_arm zero) (either nothing nothing)
arm (suc n) = either (goal_arm (suc n)) (either (if_form (expr n) (arm n)) (case_form (expr n) (arm n)))

-- whether the transition ends with ENDWITH, ENDCASE or `}`
abbrev mutual
  pub is_closed : Branch → Bool
  is_closed (AGoal p v w) = is_some w
  is_closed (AnIf p c b o) = is_closed_other o (is_closed b)
  is_closed (ACase p c) = true

  pub is_closed_other : OtherBranch → Bool → Bool
  is_closed_other NoBranch b = b
  is_closed_other (ABranch a) b = is_closed a

-- the `;` after a transition, which may be missing if that is closed
abbrev pub ending : Bool → Form Token (Option Token)
ending true = end
ending false = made Some (one terminal.Semicolon)

-- trans = GOTO goal [;] | if [;] | case [;]
unfoldable pub leading : ℕ → Form Token Branch
leading zero = either (made behind_word (one terminal.Goto then goal zero)) (either nothing nothing)
leading (suc n) =
    either (made behind_word (one terminal.Goto then goal (suc n)))
    (either (if_form (expr n) (arm n)) (case_form (expr n) (arm n)))

abbrev pub trans_of : Branch × Option Token → Branch
trans_of x = x.0

unfoldable pub trans : ℕ → Form Token Branch
trans n = made trans_of (followed (leading n) (λ b. ending (is_closed b)))

-- STATE expr : {stmt} {trans}
abbrev pub state_of : Token × (Tree × (Token × (List Statement × List Branch))) → StateTree
state_of x = record { place = x.0.place; value = x.1.0; statements = x.1.1.1.0; transitions = x.1.1.1.1 }

unfoldable pub state : ℕ → Form Token StateTree
state n =
    made state_of
    (one terminal.State then expr n then one terminal.Colon then repeated (stmt n) then repeated (trans n))

-- diagram = STATE_DIAGRAM expr {STATE expr : {stmt} {trans}}
abbrev pub diagram_of : Token × (Tree × List StateTree) → SectionTree
diagram_of x = ADiagram x.0.place x.1.0 x.1.1

unfoldable pub diagram : ℕ → Form Token SectionTree
diagram n = made diagram_of (one terminal.StateDiagram then expr n then repeated (state n))
