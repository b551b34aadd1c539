-- What sections assign is what the parts of their expressions give.
use Rattle.std.proofs.Common.{◌≡◌, Bool, true, Option, Some, None, List, [], ◌∷◌, ◌++◌, map, refl, ap, ap₂, ◌∙◌, append_assoc}
use Rattle.name_uses.proofs.Common.{flat_map, append-nil, flat_map-append, Assigned, Named, assigned_by, assigned_each, branch_assigns, branches_assign, choices_assign, else_assigns, is_clocked, list_assigns, other_assigns, section_assigns, sections_assign, signals_of, statement_assigns, statements_assign, states_assign, target_extension, with_assigns, without_extension, Sign, Tree, Statement, AnAssign, AWhen, AGroup, ADontCare, Otherwise, NoElse, AnElse, Statements, NoStatement, MoreStatements, Branch, AGoal, AnIf, ACase, OtherBranch, NoBranch, ABranch, Choices, NoChoice, MoreChoices, RowTree, StateTree, SectionTree, Declarations, Equations, ATable, ADiagram, SomeVectors, DontCareSection, PartTree, Target, Value, Read, Outputs, Registers, Entry, part, parts_in_branch, parts_in_choices, parts_in_else, parts_in_other, parts_in_row, parts_in_section, parts_in_state, parts_in_statement, parts_in_statements, parts_in_with, PartedSection, with_parts}

-- each part of a section gives what is assigned there: the target of an equation, the outputs of a table, the registers of
-- a diagram
pub record Assigns (ks : List Named) (give : PartTree → List Assigned) : Type 0 where
  pub target : (sign : Sign) (t : Tree) → give (part (Target sign) t) ≡ assigned_by (target_extension t) (is_clocked sign) (signals_of ks (without_extension t))
  pub value : (target t : Tree) → give (part (Value target) t) ≡ []
  pub read : (t : Tree) → give (part Read t) ≡ []
  pub outputs : (clocked : Bool) (t : Tree) → give (part (Outputs clocked) t) ≡ assigned_each clocked (signals_of ks t)
  pub registers : (t : Tree) → give (part Registers t) ≡ assigned_each true (signals_of ks t)
  pub entry : (t : Tree) → give (part Entry t) ≡ []

module _ (ks : List Named) (give : PartTree → List Assigned) (a : Assigns ks give) where
  abbrev given : List PartTree → List Assigned
  given ps = flat_map give ps

  both : (ps qs : List PartTree) (us vs : List Assigned) → given ps ≡ us → given qs ≡ vs → given (ps ++ qs) ≡ us ++ vs
  both ps qs us vs e f = flat_map-append give ps qs ∙ ap₂ (λ x y. x ++ y) e f

  nothing_before : (x : PartTree) (ps : List PartTree) (us : List Assigned) → give x ≡ [] → given ps ≡ us → given (x ∷ ps) ≡ us
  nothing_before x ps us none e = ap₂ (λ x y. x ++ y) none e

  mutual
    in_statement : (s : Statement) → given (parts_in_statement s) ≡ statement_assigns ks s
    in_statement (AnAssign place complement target sign sign_place value) =
        ap₂ (λ x y. x ++ (y ++ [])) (a.target sign target) (a.value target value) ∙ append-nil (statement_assigns ks (AnAssign place complement target sign sign_place value))
    in_statement (AWhen place c s other) =
        nothing_before (part Read c) (parts_in_statement s ++ parts_in_else other) (statement_assigns ks s ++ else_assigns ks other) (a.read c)
        (both (parts_in_statement s) (parts_in_else other) (statement_assigns ks s) (else_assigns ks other) (in_statement s) (in_else other))
    in_statement (AGroup ss) = in_statements ss
    in_statement (ADontCare directive) = refl

    in_else : (o : Otherwise) → given (parts_in_else o) ≡ else_assigns ks o
    in_else NoElse = refl
    in_else (AnElse s) = in_statement s

    in_statements : (ss : Statements) → given (parts_in_statements ss) ≡ statements_assign ks ss
    in_statements NoStatement = refl
    in_statements (MoreStatements s ss) =
        both (parts_in_statement s) (parts_in_statements ss) (statement_assigns ks s) (statements_assign ks ss) (in_statement s) (in_statements ss)

  in_list : (ss : List Statement) → given (flat_map parts_in_statement ss) ≡ list_assigns ks ss
  in_list [] = refl
  in_list (s ∷ ss) = both (parts_in_statement s) (flat_map parts_in_statement ss) (statement_assigns ks s) (list_assigns ks ss) (in_statement s) (in_list ss)

  in_with : (ss : Option (List Statement)) → given (parts_in_with ss) ≡ with_assigns ks ss
  in_with None = refl
  in_with (Some ss) = in_list ss

  mutual
    in_branch : (b : Branch) → given (parts_in_branch b) ≡ branch_assigns ks b
    in_branch (AGoal place value ss) = nothing_before (part Read value) (parts_in_with ss) (with_assigns ks ss) (a.read value) (in_with ss)
    in_branch (AnIf place c b other) =
        nothing_before (part Read c) (parts_in_branch b ++ parts_in_other other) (branch_assigns ks b ++ other_assigns ks other) (a.read c)
        (both (parts_in_branch b) (parts_in_other other) (branch_assigns ks b) (other_assigns ks other) (in_branch b) (in_other other))
    in_branch (ACase place cs) = in_choices cs

    in_other : (o : OtherBranch) → given (parts_in_other o) ≡ other_assigns ks o
    in_other NoBranch = refl
    in_other (ABranch b) = in_branch b

    in_choices : (cs : Choices) → given (parts_in_choices cs) ≡ choices_assign ks cs
    in_choices NoChoice = refl
    in_choices (MoreChoices c colon b cs) =
        nothing_before (part Read c) (parts_in_branch b ++ parts_in_choices cs) (branch_assigns ks b ++ choices_assign ks cs) (a.read c)
        (both (parts_in_branch b) (parts_in_choices cs) (branch_assigns ks b) (choices_assign ks cs) (in_branch b) (in_choices cs))

  in_branches : (bs : List Branch) → given (flat_map parts_in_branch bs) ≡ branches_assign ks bs
  in_branches [] = refl
  in_branches (b ∷ bs) = both (parts_in_branch b) (flat_map parts_in_branch bs) (branch_assigns ks b) (branches_assign ks bs) (in_branch b) (in_branches bs)

  in_states : (ss : List StateTree) → given (flat_map parts_in_state ss) ≡ states_assign ks ss
  in_states [] = refl
  in_states (s ∷ ss) =
      let statements = flat_map parts_in_statement s.statements in
      let transitions = flat_map parts_in_branch s.transitions in
      let rest = flat_map parts_in_state ss in
      nothing_before (part Entry s.value) ((statements ++ transitions) ++ rest) (states_assign ks (s ∷ ss)) (a.entry s.value)
      (ap given (append_assoc statements transitions rest)
      ∙ both statements (transitions ++ rest) (list_assigns ks s.statements) (branches_assign ks s.transitions ++ states_assign ks ss) (in_list s.statements)
      (both transitions rest (branches_assign ks s.transitions) (states_assign ks ss) (in_branches s.transitions) (in_states ss)))

  two_entries : (t u : Tree) (ps : List PartTree) → given ps ≡ [] → given (part Entry t ∷ part Entry u ∷ ps) ≡ []
  two_entries t u ps e = nothing_before (part Entry t) (part Entry u ∷ ps) [] (a.entry t) (nothing_before (part Entry u) ps [] (a.entry u) e)

  in_rows : (rows : List RowTree) → given (flat_map parts_in_row rows) ≡ []
  in_rows [] = refl
  in_rows (r ∷ rows) = two_entries r.inputs r.outputs (flat_map parts_in_row rows) (in_rows rows)

  in_section : (x : SectionTree) → given (parts_in_section x) ≡ section_assigns ks x
  in_section (Declarations ds) = refl
  in_section (Equations ss) = in_list ss
  in_section (ATable place inputs clocked outputs rows) =
      let there = assigned_each clocked (signals_of ks outputs) in
      nothing_before (part Read inputs) (part (Outputs clocked) outputs ∷ flat_map parts_in_row rows) there (a.read inputs) (ap₂ (λ x y. x ++ y) (a.outputs clocked outputs) (in_rows rows) ∙ append-nil there)
  in_section (ADiagram place registers states) = ap₂ (λ x y. x ++ y) (a.registers registers) (in_states states)
  in_section (SomeVectors text place inputs outputs rows) = two_entries inputs outputs (flat_map parts_in_row rows) (in_rows rows)
  in_section (DontCareSection directive) = refl

  pub sections_assigned : (xs : List SectionTree) → flat_map (λ (x : PartedSection). given x.parts) (map with_parts xs) ≡ sections_assign ks xs
  sections_assigned [] = refl
  sections_assigned (x ∷ xs) = ap₂ (λ us vs. us ++ vs) (in_section x) (sections_assigned xs)
