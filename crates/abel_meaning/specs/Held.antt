-- Registers whose polarity the sections hold: any reset or preset holds them all, a raw input or a read of Q the one that it
-- names (ABEL-HDL Reference Manual, dot extensions; that these hold a polarity is this project's rule).
use Rattle.std.specs.Prelude.{ℕ, suc, ◌==◌, Bool, true, false, ◌||◌, Option, None, Some, List, [], ◌∷◌, ◌++◌, if◌then◌else◌, bytes_eq}
use Rattle.abel_meaning.specs.Prelude.{list_any, Extension, target_extension, without_extension, Kind, APin, ANode, AConstant, ADeviceName, Entry, range_names, Tree, ANumber, ASpecial, AName, ASet, AParen, AUnary, ABinary, SetMember, OneMember, SpanMember, Members, NoMember, MoreMembers, Statement, AnAssign, AWhen, AGroup, ADontCare, Otherwise, NoElse, AnElse, Statements, NoStatement, MoreStatements, Branch, AGoal, AnIf, ACase, OtherBranch, NoBranch, ABranch, Choices, NoChoice, MoreChoices, StateTree, SectionTree, Declarations, Equations, ATable, ADiagram, SomeVectors, DontCareSection, is_raw}
use Rattle.abel_tree.specs.declared.words.Extension.TheVariants as extension

-- ---- the parts of sections that may hold a register

-- a target, or an expression that is read
pub data Part : Type 0 where
  ATarget : Tree → Part
  AValue : Tree → Part

-- those of statements
abbrev mutual
  pub statement_parts : Statement → List Part
  statement_parts (AnAssign place complement target sign sign_place value) = ATarget target ∷ AValue value ∷ []
  statement_parts (AWhen place c s other) = AValue c ∷ statement_parts s ++ else_parts other
  statement_parts (AGroup ss) = statements_parts ss
  statement_parts (ADontCare directive) = []

  pub else_parts : Otherwise → List Part
  else_parts NoElse = []
  else_parts (AnElse s) = statement_parts s

  pub statements_parts : Statements → List Part
  statements_parts NoStatement = []
  statements_parts (MoreStatements s ss) = statement_parts s ++ statements_parts ss

abbrev pub list_parts : List Statement → List Part
list_parts [] = []
list_parts (s ∷ ss) = statement_parts s ++ list_parts ss

abbrev pub with_parts : Option (List Statement) → List Part
with_parts None = []
with_parts (Some ss) = list_parts ss

-- those of transitions: a goal's value and each condition are read
abbrev mutual
  pub branch_parts : Branch → List Part
  branch_parts (AGoal place value ss) = AValue value ∷ with_parts ss
  branch_parts (AnIf place c b other) = AValue c ∷ branch_parts b ++ other_parts other
  branch_parts (ACase place cs) = choices_parts cs

  pub other_parts : OtherBranch → List Part
  other_parts NoBranch = []
  other_parts (ABranch b) = branch_parts b

  pub choices_parts : Choices → List Part
  choices_parts NoChoice = []
  choices_parts (MoreChoices c colon b cs) = AValue c ∷ branch_parts b ++ choices_parts cs

abbrev pub branches_parts : List Branch → List Part
branches_parts [] = []
branches_parts (b ∷ bs) = branch_parts b ++ branches_parts bs

abbrev pub states_parts : List StateTree → List Part
states_parts [] = []
states_parts (s ∷ ss) = list_parts s.statements ++ (branches_parts s.transitions ++ states_parts ss)

-- those of a section: of a table its inputs are read; rows, states and vectors read no signal by a Q
abbrev pub section_parts : SectionTree → List Part
section_parts (Declarations ds) = []
section_parts (Equations ss) = list_parts ss
section_parts (ATable place inputs clocked outputs rows) = AValue inputs ∷ []
section_parts (ADiagram place registers states) = states_parts states
section_parts (SomeVectors text place inputs outputs rows) = []
section_parts (DontCareSection directive) = []

abbrev pub sections_parts : List SectionTree → List Part
sections_parts [] = []
sections_parts (x ∷ xs) = section_parts x ++ sections_parts xs

-- ---- what an expression names

-- what is read has `.Q` after it: its own, or else that of the set, the constant or the whole expression around it
abbrev pub asks_q : (as_q : Bool) → Option Extension → Bool
asks_q as_q None = as_q
asks_q as_q (Some extension.Q) = true
asks_q as_q (Some _) = false

-- what each name of a range gives
abbrev pub read_names : {A : Type 0} → (List ℕ → Bool → List A) → (as_q : Bool) → List (List ℕ) → List A
read_names of as_q [] = []
read_names of as_q (name ∷ names) = of name as_q ++ read_names of as_q names

-- what each name of an expression gives, read with `.Q` after it or without
abbrev mutual
  pub read_in : {A : Type 0} → (List ℕ → Bool → List A) → (as_q : Bool) → Tree → List A
  read_in of as_q (ANumber n) = []
  read_in of as_q (ASpecial letter place) = []
  read_in of as_q (AName word e) = of word.text (asks_q as_q e)
  read_in of as_q (ASet place ms e) = read_in_members of (asks_q as_q e) ms
  read_in of as_q (AParen place t) = read_in of as_q t
  read_in of as_q (AUnary sign place t) = read_in of as_q t
  read_in of as_q (ABinary sign place t u) = read_in of as_q t ++ read_in of as_q u

  pub read_in_members : {A : Type 0} → (List ℕ → Bool → List A) → (as_q : Bool) → Members → List A
  read_in_members of as_q NoMember = []
  read_in_members of as_q (MoreMembers m ms) = read_in_member of as_q m ++ read_in_members of as_q ms

  pub read_in_member : {A : Type 0} → (List ℕ → Bool → List A) → (as_q : Bool) → SetMember → List A
  read_in_member of as_q (OneMember t) = read_in of as_q t
  read_in_member of as_q (SpanMember first last) = read_names of as_q (range_names first.text last.text)

-- what a part gives: an expression what it reads, the target of a raw input what it would read as Q
abbrev pub part_reads : {A : Type 0} → (List ℕ → Bool → List A) → Part → List A
part_reads of (ATarget t) = if is_raw (target_extension t) then read_in of true (without_extension t) else []
part_reads of (AValue t) = read_in of false t

abbrev pub parts_read : {A : Type 0} → (List ℕ → Bool → List A) → List Part → List A
parts_read of [] = []
parts_read of (p ∷ ps) = part_reads of p ++ parts_read of ps

-- ---- the names

-- a name with the signals whose Q is read its place, with `.Q` after it or without
pub record Held : Type 0 where
  pub name : List ℕ
  pub signals : (as_q : Bool) → List ℕ

abbrev pub held_by : List Held → List ℕ → (as_q : Bool) → List ℕ
held_by [] name as_q = []
held_by (k ∷ ks) name as_q = if bytes_eq name k.name then k.signals as_q else held_by ks name as_q

-- a signal's Q is read where `.Q` follows it; a constant represents its expression over the names before it
abbrev pub held_meant : List Held → ℕ → Kind → (as_q : Bool) → List ℕ
held_meant ks s (APin pin negated) as_q = if as_q then s ∷ [] else []
held_meant ks s (ANode number) as_q = if as_q then s ∷ [] else []
held_meant ks s (AConstant value) as_q = read_in (held_by ks) as_q value
held_meant ks s ADeviceName as_q = []

abbrev pub held_after : List Held → ℕ → List Entry → List Held
held_after ks s [] = ks
held_after ks s (e ∷ es) = held_after (ks ++ record { name = e.name; signals = held_meant ks s e.kind } ∷ []) (suc s) es

abbrev pub held_of : List Entry → List Held
held_of es = held_after [] 0 es

-- ---- what is held

-- the extension of a reset or a preset
abbrev pub is_shared : Option Extension → Bool
is_shared (Some extension.Ar) = true
is_shared (Some extension.Sp) = true
is_shared _ = false

abbrev pub part_shares : Part → Bool
part_shares (ATarget t) = is_shared (target_extension t)
part_shares (AValue t) = false

-- whether all registers are held, and those that are
pub record Holds : Type 0 where
  pub all : Bool
  pub signals : List ℕ

abbrev pub holds_of : List Entry → List SectionTree → Holds
holds_of es sections =
    record { all = list_any part_shares (sections_parts sections); signals = parts_read (held_by (held_of es)) (sections_parts sections) }

abbrev pub is_held : Holds → ℕ → Bool
is_held held s = held.all || list_any (λ h. h == s) held.signals
