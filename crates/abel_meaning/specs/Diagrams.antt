-- What state diagrams contribute (ABEL-HDL Reference Manual, state diagrams; that every CASE arm whose condition holds
-- is taken is this project's rule).
use Rattle.std.specs.Prelude.{ℕ, ◌==◌, Bool, true, false, not, ◌&&◌, Option, None, Some, List, [], ◌∷◌, ◌++◌, if◌then◌else◌, map, filter, length}
use Rattle.abel_meaning.specs.Prelude.{list_any, Statement, Statements, NoStatement, statements_of, Branch, AGoal, AnIf, ACase, OtherBranch, NoBranch, ABranch, Choices, NoChoice, MoreChoices, StateTree, is_data}
use Rattle.abel_meaning.specs.Terms.{Term, term_of}
use Rattle.abel_meaning.specs.Terms as term
use Rattle.abel_meaning.specs.Targets.{targets_of, some_signals}
use Rattle.abel_meaning.specs.Designs.{Context}
use Rattle.abel_meaning.specs.Numbers.{digits}
use Rattle.abel_meaning.specs.Values.{constant_of}
use Rattle.abel_meaning.specs.Contributions.{Evaluator, condition, Gives, Contribution, Guard, guarded, contribution}
use Rattle.abel_meaning.specs.Contributions as give
use Rattle.abel_meaning.specs.Statements.{statements_give}
use Rattle.abel_meaning.specs.Tables.{literal, match_of, no_matches}

-- the bare name of each register reads its digit, from the left
abbrev pub registers_equal : {W : Type 0} → Evaluator W → W → List ℕ → List Bool → W
registers_equal ev found [] bs = found
registers_equal ev found (s ∷ ss) [] = found
registers_equal ev found (s ∷ ss) (b ∷ bs) =
    registers_equal ev (ev.both found (literal ev b (condition ev (term.Read s None)))) ss bs

-- the present state is v
abbrev pub is_state : {W : Type 0} → Evaluator W → Context → (registers : List ℕ) → (value : Term) → W
is_state ev d ss v = registers_equal ev (ev.constant true) ss (digits (length ss) (constant_of d v).number)

-- a goal: one if the register's bit of the value is 1, and a match
abbrev pub goal_gives : {W : Type 0} → Evaluator W → Context → Guard W → List ℕ → List W
    → List (Contribution W)
goal_gives ev d g [] ws = []
goal_gives ev d g (s ∷ ss) [] = []
goal_gives ev d g (s ∷ ss) (w ∷ ws) =
    contribution d g None false true give.One s (ev.both g.holds w)
    ∷ match_of d g false true s
    ∷ goal_gives ev d g ss ws

-- the statements of a WITH, none if there isn't one
abbrev pub with_statements : Option (List Statement) → Statements
with_statements None = NoStatement
with_statements (Some ss) = statements_of ss

-- a transition; the statements of WITH count if it is taken
abbrev mutual
  pub branch_gives : {W : Type 0} → Evaluator W → Context → Guard W → List ℕ → Branch → List (Contribution W)
  branch_gives ev d g ss (AGoal place value statements) =
      goal_gives ev d g ss (ev.word (length ss) (term_of d.known value)) ++ statements_give ev d g (with_statements statements)
  branch_gives ev d g ss (AnIf place c a other) =
      branch_gives ev d (guarded ev g (condition ev (term_of d.known c))) ss a
      ++ other_gives ev d (guarded ev g (ev.not (condition ev (term_of d.known c)))) ss other
  branch_gives ev d g ss (ACase place cs) = choices_give ev d g ss cs

  pub other_gives : {W : Type 0} → Evaluator W → Context → Guard W → List ℕ → OtherBranch
      → List (Contribution W)
  other_gives ev d g ss NoBranch = []
  other_gives ev d g ss (ABranch a) = branch_gives ev d g ss a

  pub choices_give : {W : Type 0} → Evaluator W → Context → Guard W → List ℕ → Choices
      → List (Contribution W)
  choices_give ev d g ss NoChoice = []
  choices_give ev d g ss (MoreChoices c colon a cs) =
      branch_gives ev d (guarded ev g (condition ev (term_of d.known c))) ss a ++ choices_give ev d g ss cs

-- several transitions
abbrev pub branches_give : {W : Type 0} → Evaluator W → Context → Guard W → List ℕ → List Branch
    → List (Contribution W)
branches_give ev d g ss [] = []
branches_give ev d g ss (a ∷ arms) = branch_gives ev d g ss a ++ branches_give ev d g ss arms

-- a state's guard
abbrev pub in_state : {W : Type 0} → Evaluator W → Context → Guard W → List ℕ → StateTree → Guard W
in_state ev d g ss s = record g { holds = is_state ev d ss (term_of d.known s.value) }

-- what a state gives under its guard
abbrev pub state_gives : {W : Type 0} → Evaluator W → Context → List ℕ → StateTree → Guard W
    → List (Contribution W)
state_gives ev d ss s g = statements_give ev d g (statements_of s.statements) ++ branches_give ev d g ss s.transitions

-- what several states give
abbrev pub states_give : {W : Type 0} → Evaluator W → Context → Guard W → List ℕ → List StateTree
    → List (Contribution W)
states_give ev d g ss [] = []
states_give ev d g ss (s ∷ states) = state_gives ev d ss s (in_state ev d g ss s) ++ states_give ev d g ss states

-- data to a signal that is no register of the diagram
abbrev pub is_other : {W : Type 0} → List ℕ → Contribution W → Bool
is_other ss c = is_data c.extension && not (list_any (λ s. c.signal == s) ss)

-- one, if its signal isn't one of those before
abbrev pub once : {W : Type 0} → (before : List ℕ) → Contribution W → List (Contribution W)
once before c = if list_any (λ s. c.signal == s) before then [] else c ∷ []

-- the first of a list to each signal
abbrev pub first_of_each : {W : Type 0} → (before : List ℕ) → List (Contribution W) → List (Contribution W)
first_of_each before [] = []
first_of_each before (c ∷ cs) = once before c ++ first_of_each (c.signal ∷ before) cs

-- for a signal that is no register, the diagram matches if the present state is listed
abbrev pub state_matches : {W : Type 0} → Evaluator W → Context → Guard W → List ℕ → List StateTree
    → Contribution W → List (Contribution W)
state_matches ev d g ss states c = map (λ s. match_of d (in_state ev d g ss s) c.complement c.clocked c.signal) states

-- so for each of several contributions
abbrev pub other_matches : {W : Type 0} → Evaluator W → Context → Guard W → List ℕ → List StateTree
    → List (Contribution W) → List (Contribution W)
other_matches ev d g ss states [] = []
other_matches ev d g ss states (c ∷ cs) =
    state_matches ev d g ss states c ++ other_matches ev d g ss states cs

-- contributions, with the matches of their other signals
abbrev pub with_others : {W : Type 0} → Evaluator W → Context → Guard W → List ℕ → List StateTree
    → List (Contribution W) → List (Contribution W)
with_others ev d g ss states cs =
    cs ++ other_matches ev d g ss states (first_of_each [] (filter (is_other ss) cs))

-- what a diagram gives to these registers
abbrev pub registers_given : {W : Type 0} → Evaluator W → Context → Guard W → List ℕ → List StateTree
    → List (Contribution W)
registers_given ev d g ss states =
    no_matches ev d g false true (map Some ss) ++ with_others ev d g ss states (states_give ev d g ss states)

-- what a diagram of these registers gives
abbrev pub diagram_gives : {W : Type 0} → Evaluator W → Context → Guard W → (registers : Term)
    → List StateTree → List (Contribution W)
diagram_gives ev d g registers states = registers_given ev d g (some_signals (targets_of registers)) states
