-- The names that statements and sections use.
use Rattle.std.specs.Prelude.{Option, None, Some, List, [], ◌∷◌, ◌++◌}
use Rattle.abel_tree.specs.Tree.{Tree, Statement, AnAssign, AWhen, AGroup, ADontCare, Otherwise, NoElse, AnElse, Statements, NoStatement, MoreStatements, Branch, AGoal, AnIf, ACase, OtherBranch, NoBranch, ABranch, Choices, NoChoice, MoreChoices, RowTree, StateTree, SectionTree, Declarations, Equations, ATable, ADiagram, SomeVectors, DontCareSection}
pub use Rattle.abel_tree.specs.ExpressionUses.{Use, OneName, Range, uses, member_uses, one_member_uses}

abbrev pub all_uses : List Tree → List Use
all_uses [] = []
all_uses (t ∷ ts) = uses t ++ all_uses ts

abbrev mutual
  pub statement_uses : Statement → List Use
  statement_uses (AnAssign p complement target sign q value) = uses target ++ uses value
  statement_uses (AWhen p c s other) = uses c ++ (statement_uses s ++ else_uses other)
  statement_uses (AGroup ss) = statements_uses ss
  statement_uses (ADontCare d) = []

  pub else_uses : Otherwise → List Use
  else_uses NoElse = []
  else_uses (AnElse s) = statement_uses s

  pub statements_uses : Statements → List Use
  statements_uses NoStatement = []
  statements_uses (MoreStatements s ss) = statement_uses s ++ statements_uses ss

abbrev pub list_uses : List Statement → List Use
list_uses [] = []
list_uses (s ∷ ss) = statement_uses s ++ list_uses ss

abbrev pub with_uses : Option (List Statement) → List Use
with_uses None = []
with_uses (Some ss) = list_uses ss

abbrev mutual
  pub branch_uses : Branch → List Use
  branch_uses (AGoal p value ss) = uses value ++ with_uses ss
  branch_uses (AnIf p c b other) = uses c ++ (branch_uses b ++ other_uses other)
  branch_uses (ACase p cs) = choices_uses cs

  pub other_uses : OtherBranch → List Use
  other_uses NoBranch = []
  other_uses (ABranch b) = branch_uses b

  pub choices_uses : Choices → List Use
  choices_uses NoChoice = []
  choices_uses (MoreChoices c p b cs) = uses c ++ (branch_uses b ++ choices_uses cs)

abbrev pub branches_uses : List Branch → List Use
branches_uses [] = []
branches_uses (b ∷ bs) = branch_uses b ++ branches_uses bs

abbrev pub rows_uses : List RowTree → List Use
rows_uses [] = []
rows_uses (r ∷ rs) = uses r.inputs ++ (uses r.outputs ++ rows_uses rs)

abbrev pub states_uses : List StateTree → List Use
states_uses [] = []
states_uses (s ∷ ss) = uses s.value ++ (list_uses s.statements ++ (branches_uses s.transitions ++ states_uses ss))

-- DECLARATIONS has none of its own: what it uses is seen if it declares
abbrev pub section_uses : SectionTree → List Use
section_uses (Declarations ds) = []
section_uses (Equations ss) = list_uses ss
section_uses (ATable p inputs clocked outputs rows) = uses inputs ++ (uses outputs ++ rows_uses rows)
section_uses (ADiagram p registers states) = uses registers ++ states_uses states
section_uses (SomeVectors text p inputs outputs rows) = uses inputs ++ (uses outputs ++ rows_uses rows)
section_uses (DontCareSection d) = []
