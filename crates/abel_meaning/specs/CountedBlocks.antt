-- The nodes that the units of tables, diagrams and whole modules make (this project's rule).
use Rattle.std.specs.Prelude.{ℕ, ◌+◌, Bool, true, false, Option, None, Some, List, [], ◌∷◌, ◌++◌, length, reverse}
use Rattle.abel_meaning.specs.Prelude.{Made, free, ◌>>=◌, make_not, make_and, Formula, Const, Tree, statements_of, RowTree, Branch, AGoal, AnIf, ACase, OtherBranch, NoBranch, ABranch, Choices, NoChoice, MoreChoices, StateTree, SectionTree, Equations, ATable, ADiagram}
use Rattle.abel_meaning.specs.Terms.{Term, term_of}
use Rattle.abel_meaning.specs.Terms as term
use Rattle.abel_meaning.specs.Targets.{targets_of, some_signals}
use Rattle.abel_meaning.specs.Designs.{Context, Design}
use Rattle.abel_meaning.specs.Numbers.{width_of, digits}
use Rattle.abel_meaning.specs.Values.{constant_of}
use Rattle.abel_meaning.specs.Rows.{entry_levels}
use Rattle.abel_meaning.specs.Contributions.{condition}
use Rattle.abel_meaning.specs.Diagrams.{with_statements}
use Rattle.abel_meaning.specs.FormulaBits.{bits_of, formulas}
use Rattle.abel_meaning.specs.CountedNodes.{term_nodes, value_nodes, condition_of, guard_then, guard_else, choice_nodes, statements_units}

-- a literal and its And with what was found before
abbrev pub make_literal : (found : Formula) → (level : Bool) → Formula → Made Formula
make_literal found true f = make_and found f
make_literal found false f = make_not f >>= λ n. make_and found n

-- the literals of a row, from the left
abbrev pub row_literals : (found : Formula) → (unknown : List Bool) → List Formula
    → List (Option Bool) → Made Formula
row_literals found [] fs ls = free found
row_literals found (x ∷ xs) [] ls = free found
row_literals found (x ∷ xs) (f ∷ fs) [] = free found
row_literals found (true ∷ xs) (f ∷ fs) (l ∷ ls) = row_literals found xs fs ls
row_literals found (false ∷ xs) (f ∷ fs) (None ∷ ls) = row_literals found xs fs ls
row_literals found (false ∷ xs) (f ∷ fs) (Some level ∷ ls) =
    make_literal found level f >>= λ next. row_literals next xs fs ls

-- the nodes of a row
abbrev pub row_nodes : Context → (header : Term) → RowTree → ℕ
row_nodes d h row =
    (row_literals (Const true) (reverse (constant_of d h).unknown)
    ((formulas d).word (width_of (constant_of d h).shape) h) (entry_levels d h (term_of d.known row.inputs))).nodes

-- the units of rows; the first one also makes the input header
abbrev pub rows_units : Context → (header : Term) → (header_nodes : ℕ) → List RowTree → List ℕ
rows_units d h n [] = []
rows_units d h n (row ∷ rows) = (n + row_nodes d h row) ∷ rows_units d h 0 rows

-- the units of a table with this input header
abbrev pub table_units : Context → (inputs : Tree) → List RowTree → List ℕ
table_units d inputs rows = rows_units d (term_of d.known inputs) (term_nodes d inputs) rows

-- a state: the reads of its registers, a Not for each 0, and the Ands
abbrev pub register_literals : Context → (found : Formula) → List ℕ → List Bool → Made Formula
register_literals d found [] bs = free found
register_literals d found (s ∷ ss) [] = free found
register_literals d found (s ∷ ss) (b ∷ bs) =
    bits_of d (term.Read s None)
    >>= λ _. make_literal found b (condition (formulas d) (term.Read s None))
    >>= λ next. register_literals d next ss bs

-- an ELSE is there
abbrev pub has_other : OtherBranch → Bool
has_other NoBranch = false
has_other (ABranch a) = true

-- the conditions of a CASE with their Ands
abbrev pub choices_nodes : Context → (guard : Formula) → Choices → ℕ
choices_nodes d g NoChoice = 0
choices_nodes d g (MoreChoices c colon a cs) = choice_nodes d g c false + choices_nodes d g cs

-- the units of transitions to this many registers
abbrev mutual
  pub branch_units : Context → (guard : Formula) → ℕ → Branch → List ℕ
  branch_units d g n (AGoal place value ss) = value_nodes d g n value ∷ statements_units d g (with_statements ss)
  branch_units d g n (AnIf place c a other) =
      choice_nodes d g c (has_other other)
      ∷ branch_units d (guard_then g (condition_of d c)).what n a
      ++ other_units d (guard_else g (condition_of d c)).what n other
  branch_units d g n (ACase place cs) = choices_nodes d g cs ∷ choices_units d g n cs

  pub other_units : Context → (guard : Formula) → ℕ → OtherBranch → List ℕ
  other_units d g n NoBranch = []
  other_units d g n (ABranch a) = branch_units d g n a

  pub choices_units : Context → (guard : Formula) → ℕ → Choices → List ℕ
  choices_units d g n NoChoice = []
  choices_units d g n (MoreChoices c colon a cs) =
      branch_units d (guard_then g (condition_of d c)).what n a ++ choices_units d g n cs

-- the units of several transitions
abbrev pub branches_units : Context → (guard : Formula) → ℕ → List Branch → List ℕ
branches_units d g n [] = []
branches_units d g n (a ∷ arms) = branch_units d g n a ++ branches_units d g n arms

-- the units of a state whose guard was made
abbrev pub state_units : Context → List ℕ → StateTree → Made Formula → List ℕ
state_units d ss s guard =
    guard.nodes ∷ statements_units d guard.what (statements_of s.statements) ++ branches_units d guard.what (length ss) s.transitions

-- the units of states
abbrev pub states_units : Context → List ℕ → List StateTree → List ℕ
states_units d ss [] = []
states_units d ss (s ∷ states) =
    state_units d ss s
    (register_literals d (Const true) ss (digits (length ss) (constant_of d (term_of d.known s.value)).number))
    ++ states_units d ss states

-- the units of a section
abbrev pub section_units : Context → SectionTree → List ℕ
section_units d (Equations ss) = statements_units d (Const true) (statements_of ss)
section_units d (ATable place inputs clocked outputs rows) = table_units d inputs rows
section_units d (ADiagram place registers states) =
    states_units d (some_signals (targets_of (term_of d.known registers))) states
section_units d _ = []

-- the units of sections
abbrev pub sections_units : Context → List SectionTree → List ℕ
sections_units d [] = []
sections_units d (s ∷ ss) = section_units d s ++ sections_units d ss

-- the nodes of each unit of a design
abbrev pub units_of : Design → List ℕ
units_of d = sections_units d.context d.sections
