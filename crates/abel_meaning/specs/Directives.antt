-- Whether `@DCSET` is in force, from construct to construct (ABEL-HDL Reference Manual, @DCSET and @ONSET).
use Rattle.std.specs.Prelude.{Bool, List, [], ◌∷◌}
use Rattle.abel_meaning.specs.Prelude.{Statement, AnAssign, AWhen, AGroup, ADontCare, Otherwise, NoElse, AnElse, Statements, NoStatement, MoreStatements, statements_of, Branch, AGoal, AnIf, ACase, OtherBranch, NoBranch, ABranch, Choices, NoChoice, MoreChoices, StateTree, SectionTree, Declarations, Equations, ATable, ADiagram, SomeVectors, DontCareSection}
use Rattle.abel_meaning.specs.Designs.{after_declarations}
use Rattle.abel_meaning.specs.Diagrams.{with_statements}

-- whether @DCSET is in force after statements
abbrev mutual
  pub after_statement : Bool → Statement → Bool
  after_statement on (AnAssign place complement target sign sign_place value) = on
  after_statement on (AWhen place c s other) = after_else (after_statement on s) other
  after_statement on (AGroup ss) = after_statements on ss
  after_statement on (ADontCare directive) = directive.on

  pub after_else : Bool → Otherwise → Bool
  after_else on NoElse = on
  after_else on (AnElse s) = after_statement on s

  pub after_statements : Bool → Statements → Bool
  after_statements on NoStatement = on
  after_statements on (MoreStatements s ss) = after_statements (after_statement on s) ss

-- after transitions
abbrev mutual
  pub after_branch : Bool → Branch → Bool
  after_branch on (AGoal place value ss) = after_statements on (with_statements ss)
  after_branch on (AnIf place c a other) = after_other (after_branch on a) other
  after_branch on (ACase place cs) = after_choices on cs

  pub after_other : Bool → OtherBranch → Bool
  after_other on NoBranch = on
  after_other on (ABranch a) = after_branch on a

  pub after_choices : Bool → Choices → Bool
  after_choices on NoChoice = on
  after_choices on (MoreChoices c colon a cs) = after_choices (after_branch on a) cs

-- after several transitions
abbrev pub after_branches : Bool → List Branch → Bool
after_branches on [] = on
after_branches on (a ∷ arms) = after_branches (after_branch on a) arms

-- after states
abbrev pub after_states : Bool → List StateTree → Bool
after_states on [] = on
after_states on (s ∷ ss) = after_states (after_branches (after_statements on (statements_of s.statements)) s.transitions) ss

-- after a section
abbrev pub after_section : Bool → SectionTree → Bool
after_section on (Declarations ds) = after_declarations on ds
after_section on (Equations ss) = after_statements on (statements_of ss)
after_section on (ATable place inputs clocked outputs rows) = on
after_section on (ADiagram place registers states) = after_states on states
after_section on (SomeVectors _ place inputs outputs rows) = on
after_section on (DontCareSection directive) = directive.on
