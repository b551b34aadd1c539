-- What the parts of sections that may hold a register give is what the parts of their expressions do.
use Rattle.std.proofs.Common.{◌≡◌, Bool, Option, Some, None, List, [], ◌∷◌, ◌++◌, map, refl, sym, ap, ap₂, ◌∙◌, append_assoc}
use Rattle.name_uses.proofs.Common.{flat_map, flat_map-append, Sign, Tree, Statement, AnAssign, AWhen, AGroup, ADontCare, Otherwise, NoElse, AnElse, Statements, NoStatement, MoreStatements, Branch, AGoal, AnIf, ACase, OtherBranch, NoBranch, ABranch, Choices, NoChoice, MoreChoices, RowTree, StateTree, SectionTree, Declarations, Equations, ATable, ADiagram, SomeVectors, DontCareSection, PartTree, Target, Value, Read, Outputs, Registers, Entry, part, parts_in_branch, parts_in_choices, parts_in_else, parts_in_other, parts_in_row, parts_in_section, parts_in_state, parts_in_statement, parts_in_statements, parts_in_with, PartedSection, with_parts}
use Rattle.abel_meaning.specs.Held.{ATarget, AValue, Part, branch_parts, branches_parts, choices_parts, else_parts, list_parts, other_parts, section_parts, sections_parts, statement_parts, statements_parts, states_parts, with_parts as parts_of_with}

-- each part of a section gives what the part that may hold a register does that it is, and nothing if it isn't one; the
-- registers of a diagram are asked apart
pub record Follows {A : Type 0} (give : PartTree → List A) (go : Part → List A) : Type 0 where
  pub target : (sign : Sign) (t : Tree) → give (part (Target sign) t) ≡ go (ATarget t)
  pub value : (target t : Tree) → give (part (Value target) t) ≡ go (AValue t)
  pub read : (t : Tree) → give (part Read t) ≡ go (AValue t)
  pub outputs : (clocked : Bool) (t : Tree) → give (part (Outputs clocked) t) ≡ []
  pub entry : (t : Tree) → give (part Entry t) ≡ []

module _ {A : Type 0} (give : PartTree → List A) (go : Part → List A) (f : Follows give go) where
  -- these parts give what those do
  abbrev Alike : List PartTree → List Part → Type 0
  Alike ps us = flat_map give ps ≡ flat_map go us

  both : (ps qs : List PartTree) (us vs : List Part) → Alike ps us → Alike qs vs → Alike (ps ++ qs) (us ++ vs)
  both ps qs us vs d e = flat_map-append give ps qs ∙ (ap₂ (λ x y. x ++ y) d e ∙ sym (flat_map-append go us vs))

  behind : (t : Tree) (ps : List PartTree) (us : List Part) → Alike ps us → Alike (part Read t ∷ ps) (AValue t ∷ us)
  behind t ps us e = ap₂ (λ x y. x ++ y) (f.read t) e

  nothing_before : (x : PartTree) (ps : List PartTree) (us : List Part) → give x ≡ [] → Alike ps us → Alike (x ∷ ps) us
  nothing_before x ps us none e = ap₂ (λ x y. x ++ y) none e

  mutual
    in_statement : (s : Statement) → Alike (parts_in_statement s) (statement_parts s)
    in_statement (AnAssign place complement target sign sign_place value) = ap₂ (λ x y. x ++ (y ++ [])) (f.target sign target) (f.value target value)
    in_statement (AWhen place c s other) =
        behind c (parts_in_statement s ++ parts_in_else other) (statement_parts s ++ else_parts other)
        (both (parts_in_statement s) (parts_in_else other) (statement_parts s) (else_parts other) (in_statement s) (in_else other))
    in_statement (AGroup ss) = in_statements ss
    in_statement (ADontCare directive) = refl

    in_else : (o : Otherwise) → Alike (parts_in_else o) (else_parts o)
    in_else NoElse = refl
    in_else (AnElse s) = in_statement s

    in_statements : (ss : Statements) → Alike (parts_in_statements ss) (statements_parts ss)
    in_statements NoStatement = refl
    in_statements (MoreStatements s ss) = both (parts_in_statement s) (parts_in_statements ss) (statement_parts s) (statements_parts ss) (in_statement s) (in_statements ss)

  pub in_list : (ss : List Statement) → Alike (flat_map parts_in_statement ss) (list_parts ss)
  in_list [] = refl
  in_list (s ∷ ss) = both (parts_in_statement s) (flat_map parts_in_statement ss) (statement_parts s) (list_parts ss) (in_statement s) (in_list ss)

  in_with : (ss : Option (List Statement)) → Alike (parts_in_with ss) (parts_of_with ss)
  in_with None = refl
  in_with (Some ss) = in_list ss

  mutual
    in_branch : (b : Branch) → Alike (parts_in_branch b) (branch_parts b)
    in_branch (AGoal place value ss) = behind value (parts_in_with ss) (parts_of_with ss) (in_with ss)
    in_branch (AnIf place c b other) =
        behind c (parts_in_branch b ++ parts_in_other other) (branch_parts b ++ other_parts other)
        (both (parts_in_branch b) (parts_in_other other) (branch_parts b) (other_parts other) (in_branch b) (in_other other))
    in_branch (ACase place cs) = in_choices cs

    in_other : (o : OtherBranch) → Alike (parts_in_other o) (other_parts o)
    in_other NoBranch = refl
    in_other (ABranch b) = in_branch b

    in_choices : (cs : Choices) → Alike (parts_in_choices cs) (choices_parts cs)
    in_choices NoChoice = refl
    in_choices (MoreChoices c colon b cs) =
        behind c (parts_in_branch b ++ parts_in_choices cs) (branch_parts b ++ choices_parts cs)
        (both (parts_in_branch b) (parts_in_choices cs) (branch_parts b) (choices_parts cs) (in_branch b) (in_choices cs))

  in_branches : (bs : List Branch) → Alike (flat_map parts_in_branch bs) (branches_parts bs)
  in_branches [] = refl
  in_branches (b ∷ bs) = both (parts_in_branch b) (flat_map parts_in_branch bs) (branch_parts b) (branches_parts bs) (in_branch b) (in_branches bs)

  pub in_states : (ss : List StateTree) → Alike (flat_map parts_in_state ss) (states_parts ss)
  in_states [] = refl
  in_states (s ∷ ss) =
      let statements = flat_map parts_in_statement s.statements in
      let transitions = flat_map parts_in_branch s.transitions in
      let rest = flat_map parts_in_state ss in
      nothing_before (part Entry s.value) ((statements ++ transitions) ++ rest) (states_parts (s ∷ ss)) (f.entry s.value)
      (ap (flat_map give) (append_assoc statements transitions rest)
      ∙ both statements (transitions ++ rest) (list_parts s.statements) (branches_parts s.transitions ++ states_parts ss) (in_list s.statements)
      (both transitions rest (branches_parts s.transitions) (states_parts ss) (in_branches s.transitions) (in_states ss)))

  pub in_rows : (rows : List RowTree) → Alike (flat_map parts_in_row rows) []
  in_rows [] = refl
  in_rows (x ∷ rows) = entries x.inputs x.outputs rows (in_rows rows)
    where
      entries : (t u : Tree) (rows : List RowTree) → Alike (flat_map parts_in_row rows) [] → Alike (part Entry t ∷ part Entry u ∷ flat_map parts_in_row rows) []
      entries t u rows e = nothing_before (part Entry t) (part Entry u ∷ flat_map parts_in_row rows) [] (f.entry t) (nothing_before (part Entry u) (flat_map parts_in_row rows) [] (f.entry u) e)

  module _ (none : (t : Tree) → give (part Registers t) ≡ []) where
    in_section : (x : SectionTree) → Alike (parts_in_section x) (section_parts x)
    in_section (Declarations ds) = refl
    in_section (Equations ss) = in_list ss
    in_section (ATable place inputs clocked outputs rows) =
        behind inputs (part (Outputs clocked) outputs ∷ flat_map parts_in_row rows) [] (nothing_before (part (Outputs clocked) outputs) (flat_map parts_in_row rows) [] (f.outputs clocked outputs) (in_rows rows))
    in_section (ADiagram place registers states) = nothing_before (part Registers registers) (flat_map parts_in_state states) (states_parts states) (none registers) (in_states states)
    in_section (SomeVectors text place inputs outputs rows) =
        nothing_before (part Entry inputs) (part Entry outputs ∷ flat_map parts_in_row rows) [] (f.entry inputs) (nothing_before (part Entry outputs) (flat_map parts_in_row rows) [] (f.entry outputs) (in_rows rows))
    in_section (DontCareSection directive) = refl

    pub sections_followed : (xs : List SectionTree) → flat_map (λ (x : PartedSection). flat_map give x.parts) (map with_parts xs) ≡ flat_map go (sections_parts xs)
    sections_followed [] = refl
    sections_followed (x ∷ xs) = ap₂ (λ us vs. us ++ vs) (in_section x) (sections_followed xs) ∙ sym (flat_map-append go (section_parts x) (sections_parts xs))
