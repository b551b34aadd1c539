-- The expressions of a section, in order of the source, by what they are there (ABEL-HDL Reference Manual, equations, truth
-- tables, state diagrams, test vectors).
use Rattle.std.specs.Prelude.{Bool, Option, None, Some, List, [], ◌∷◌, ◌++◌}
use Rattle.std.specs.List.{flat_map}
use Rattle.pld_base.specs.declared.place.Place.{Place}
use Rattle.abel_tree.specs.declared.words.Sign.{Sign}
use Rattle.abel_tree.specs.Tree.{Tree, Statement, AnAssign, AWhen, AGroup, ADontCare, Otherwise, NoElse, AnElse, Statements, NoStatement, MoreStatements, Branch, AGoal, AnIf, ACase, OtherBranch, NoBranch, ABranch, Choices, NoChoice, MoreChoices, RowTree, StateTree, SectionTree, Declarations, Equations, ATable, ADiagram, SomeVectors, DontCareSection}
use Rattle.name_uses.specs.NamesUsed.{UsedName, names_used}

-- what an expression is in its section
pub data PartRole : Type 0 where
  -- the target of an equation with this sign
  Target : Sign → PartRole
  -- the value of an equation with this target
  Value : (target : Tree) → PartRole
  -- what is read: a condition, the value of a goal, the inputs of a table
  Read : PartRole
  -- the outputs of a table, assigned on the clock or not
  Outputs : (clocked : Bool) → PartRole
  -- the registers of a diagram
  Registers : PartRole
  -- what reads no signal: the entries of rows, the values of states, the headers of vectors
  Entry : PartRole

-- an expression of a section, with the names that it uses
pub record PartTree : Type 0 where
  pub role : PartRole
  pub tree : Tree
  pub uses : List UsedName

abbrev pub part : PartRole → Tree → PartTree
part role t = record { role = role; tree = t; uses = names_used None t }

-- those of statements
abbrev mutual
  pub parts_in_statement : Statement → List PartTree
  parts_in_statement (AnAssign place complement target sign sign_place value) =
      part (Target sign) target ∷ part (Value target) value ∷ []
  parts_in_statement (AWhen place c s other) = part Read c ∷ parts_in_statement s ++ parts_in_else other
  parts_in_statement (AGroup ss) = parts_in_statements ss
  parts_in_statement (ADontCare directive) = []

  pub parts_in_else : Otherwise → List PartTree
  parts_in_else NoElse = []
  parts_in_else (AnElse s) = parts_in_statement s

  pub parts_in_statements : Statements → List PartTree
  parts_in_statements NoStatement = []
  parts_in_statements (MoreStatements s ss) = parts_in_statement s ++ parts_in_statements ss

abbrev pub parts_in_with : Option (List Statement) → List PartTree
parts_in_with None = []
parts_in_with (Some ss) = flat_map parts_in_statement ss

-- those of transitions
abbrev mutual
  pub parts_in_branch : Branch → List PartTree
  parts_in_branch (AGoal place value ss) = part Read value ∷ parts_in_with ss
  parts_in_branch (AnIf place c b other) = part Read c ∷ parts_in_branch b ++ parts_in_other other
  parts_in_branch (ACase place cs) = parts_in_choices cs

  pub parts_in_other : OtherBranch → List PartTree
  parts_in_other NoBranch = []
  parts_in_other (ABranch b) = parts_in_branch b

  pub parts_in_choices : Choices → List PartTree
  parts_in_choices NoChoice = []
  parts_in_choices (MoreChoices c colon b cs) = (part Read c ∷ parts_in_branch b) ++ parts_in_choices cs

-- those of an arm of CASE
abbrev pub parts_in_choice : Tree × (Place × Branch) → List PartTree
parts_in_choice c = part Read c.0 ∷ parts_in_branch c.1.1

-- those of a state
abbrev pub parts_in_state : StateTree → List PartTree
parts_in_state s =
    part Entry s.value ∷ flat_map parts_in_statement s.statements ++ flat_map parts_in_branch s.transitions

-- those of a row of a table or of vectors
abbrev pub parts_in_row : RowTree → List PartTree
parts_in_row r = part Entry r.inputs ∷ part Entry r.outputs ∷ []

-- those of a section; the declarations of a section are no part of it
abbrev pub parts_in_section : SectionTree → List PartTree
parts_in_section (Declarations ds) = []
parts_in_section (Equations ss) = flat_map parts_in_statement ss
parts_in_section (ATable place inputs clocked outputs rows) =
    part Read inputs ∷ part (Outputs clocked) outputs ∷ flat_map parts_in_row rows
parts_in_section (ADiagram place registers states) = part Registers registers ∷ flat_map parts_in_state states
parts_in_section (SomeVectors text place inputs outputs rows) = part Entry inputs ∷ part Entry outputs ∷ flat_map parts_in_row rows
parts_in_section (DontCareSection directive) = []
