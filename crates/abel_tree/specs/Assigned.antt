-- The signals that a module assigns, and whether on the clock (ABEL-HDL Reference Manual, equations).
use Rattle.std.specs.Prelude.{ℕ, suc, ◌==◌, Bool, true, false, ◌&&◌, Option, None, Some, List, [], ◌∷◌, ◌++◌, if◌then◌else◌, bytes_eq}
use Rattle.std.specs.List.{list_any}
use Rattle.abel_tree.specs.declared.words.Extension.{Extension}
use Rattle.abel_tree.specs.declared.words.Extension.TheVariants.{D}
use Rattle.abel_tree.specs.declared.words.Sign.{Sign}
use Rattle.abel_tree.specs.declared.words.Sign.TheVariants.{Equal, Clocked, Any, ClockedAny}
use Rattle.abel_tree.specs.Tree.{Tree, ANumber, ASpecial, AName, ASet, AParen, AUnary, ABinary, SetMember, OneMember, SpanMember, Members, NoMember, MoreMembers, Statement, AnAssign, AWhen, AGroup, ADontCare, Otherwise, NoElse, AnElse, Statements, NoStatement, MoreStatements, Branch, AGoal, AnIf, ACase, OtherBranch, NoBranch, ABranch, Choices, NoChoice, MoreChoices, StateTree, SectionTree, Declarations, Equations, ATable, ADiagram, SomeVectors, DontCareSection}
use Rattle.abel_tree.specs.Ranges.{range_names}
use Rattle.abel_tree.specs.Entries.{Kind, APin, ANode, AConstant, ADeviceName, Entry}

-- a name with the numbers of the signals that it names as a target
pub record Named : Type 0 where
  pub name : List ℕ
  pub signals : List ℕ

abbrev pub signals_of_name : List Named → List ℕ → List ℕ
signals_of_name [] name = []
signals_of_name (k ∷ ks) name = if bytes_eq name k.name then k.signals else signals_of_name ks name

abbrev pub signals_of_names : List Named → List (List ℕ) → List ℕ
signals_of_names ks [] = []
signals_of_names ks (name ∷ names) = signals_of_name ks name ++ signals_of_names ks names

-- the signals that an expression names up to parentheses, ranges, constants and sets within sets: what has an extension of
-- its own is no target and names none
abbrev mutual
  pub signals_of : List Named → Tree → List ℕ
  signals_of ks (ANumber n) = []
  signals_of ks (ASpecial letter p) = []
  signals_of ks (AName word None) = signals_of_name ks word.text
  signals_of ks (AName word (Some e)) = []
  signals_of ks (ASet p ms None) = signals_of_members ks ms
  signals_of ks (ASet p ms (Some e)) = []
  signals_of ks (AParen p t) = signals_of ks t
  signals_of ks (AUnary sign p t) = []
  signals_of ks (ABinary sign p t u) = []

  pub signals_of_members : List Named → Members → List ℕ
  signals_of_members ks NoMember = []
  signals_of_members ks (MoreMembers m ms) = signals_of_member ks m ++ signals_of_members ks ms

  pub signals_of_member : List Named → SetMember → List ℕ
  signals_of_member ks (OneMember t) = signals_of ks t
  signals_of_member ks (SpanMember first last) = signals_of_names ks (range_names first.text last.text)

-- a constant represents its expression over the names before it
abbrev pub meant : List Named → ℕ → Kind → List ℕ
meant ks s (APin pin negated) = s ∷ []
meant ks s (ANode number) = s ∷ []
meant ks s (AConstant value) = signals_of ks value
meant ks s ADeviceName = []

abbrev pub named_after : List Named → ℕ → List Entry → List Named
named_after ks s [] = ks
named_after ks s (e ∷ es) = named_after (ks ++ record { name = e.name; signals = meant ks s e.kind } ∷ []) (suc s) es

abbrev pub named_of : List Entry → List Named
named_of es = named_after [] 0 es

pub record Assigned : Type 0 where
  pub signal : ℕ
  pub clocked : Bool

abbrev pub assigned_each : (clocked : Bool) → List ℕ → List Assigned
assigned_each clocked [] = []
assigned_each clocked (s ∷ ss) = record { signal = s; clocked = clocked } ∷ assigned_each clocked ss

-- an equation's target: its extension, which counts for all that it names, and the target alone
abbrev pub target_extension : Tree → Option Extension
target_extension (AName word e) = e
target_extension (ASet p ms e) = e
target_extension _ = None

abbrev pub without_extension : Tree → Tree
without_extension (AName word e) = AName word None
without_extension (ASet p ms e) = ASet p ms None
without_extension t = t

abbrev pub is_clocked : Sign → Bool
is_clocked Equal = false
is_clocked Clocked = true
is_clocked Any = false
is_clocked ClockedAny = true

-- a target without extension is data, and so is the raw input of a register; other extensions are controls
abbrev pub assigned_by : Option Extension → (clocked : Bool) → List ℕ → List Assigned
assigned_by None clocked ss = assigned_each clocked ss
assigned_by (Some D) clocked ss = assigned_each true ss
assigned_by (Some _) clocked ss = []

abbrev mutual
  pub statement_assigns : List Named → Statement → List Assigned
  statement_assigns ks (AnAssign p complement target sign q value) =
      assigned_by (target_extension target) (is_clocked sign) (signals_of ks (without_extension target))
  statement_assigns ks (AWhen p c s other) = statement_assigns ks s ++ else_assigns ks other
  statement_assigns ks (AGroup ss) = statements_assign ks ss
  statement_assigns ks (ADontCare d) = []

  pub else_assigns : List Named → Otherwise → List Assigned
  else_assigns ks NoElse = []
  else_assigns ks (AnElse s) = statement_assigns ks s

  pub statements_assign : List Named → Statements → List Assigned
  statements_assign ks NoStatement = []
  statements_assign ks (MoreStatements s ss) = statement_assigns ks s ++ statements_assign ks ss

abbrev pub list_assigns : List Named → List Statement → List Assigned
list_assigns ks [] = []
list_assigns ks (s ∷ ss) = statement_assigns ks s ++ list_assigns ks ss

abbrev pub with_assigns : List Named → Option (List Statement) → List Assigned
with_assigns ks None = []
with_assigns ks (Some ss) = list_assigns ks ss

abbrev mutual
  pub branch_assigns : List Named → Branch → List Assigned
  branch_assigns ks (AGoal p value ss) = with_assigns ks ss
  branch_assigns ks (AnIf p c b other) = branch_assigns ks b ++ other_assigns ks other
  branch_assigns ks (ACase p cs) = choices_assign ks cs

  pub other_assigns : List Named → OtherBranch → List Assigned
  other_assigns ks NoBranch = []
  other_assigns ks (ABranch b) = branch_assigns ks b

  pub choices_assign : List Named → Choices → List Assigned
  choices_assign ks NoChoice = []
  choices_assign ks (MoreChoices c p b cs) = branch_assigns ks b ++ choices_assign ks cs

abbrev pub branches_assign : List Named → List Branch → List Assigned
branches_assign ks [] = []
branches_assign ks (b ∷ bs) = branch_assigns ks b ++ branches_assign ks bs

abbrev pub states_assign : List Named → List StateTree → List Assigned
states_assign ks [] = []
states_assign ks (s ∷ ss) = list_assigns ks s.statements ++ (branches_assign ks s.transitions ++ states_assign ks ss)

abbrev pub section_assigns : List Named → SectionTree → List Assigned
section_assigns ks (Declarations ds) = []
section_assigns ks (Equations ss) = list_assigns ks ss
section_assigns ks (ATable p inputs clocked outputs rows) = assigned_each clocked (signals_of ks outputs)
section_assigns ks (ADiagram p registers states) = assigned_each true (signals_of ks registers) ++ states_assign ks states
section_assigns ks (SomeVectors text p inputs outputs rows) = []
section_assigns ks (DontCareSection d) = []

abbrev pub sections_assign : List Named → List SectionTree → List Assigned
sections_assign ks [] = []
sections_assign ks (x ∷ xs) = section_assigns ks x ++ sections_assign ks xs

abbrev pub is_assigned : List Assigned → ℕ → Bool
is_assigned found s = list_any (λ (a : Assigned). a.signal == s) found

abbrev pub is_clocked_target : List Assigned → ℕ → Bool
is_clocked_target found s = list_any (λ (a : Assigned). a.signal == s && a.clocked) found
