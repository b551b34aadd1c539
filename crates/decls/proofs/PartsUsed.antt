-- What the parts of sections use is what the sections use.
use Rattle.std.proofs.Common.{◌≡◌, List, [], ◌∷◌, ◌++◌, Option, Some, None, fold, map, refl, sym, ap, ap₂, ◌∙◌, append_assoc}
use Rattle.decls.proofs.Common.{flat_map, append-nil, map-append, fold-append, Table, Extension, Tree, ANumber, ASpecial, AName, ASet, AParen, AUnary, ABinary, SetMember, OneMember, SpanMember, Members, NoMember, MoreMembers, Statement, AnAssign, AWhen, AGroup, ADontCare, Otherwise, NoElse, AnElse, Statements, NoStatement, MoreStatements, Branch, AGoal, AnIf, ACase, OtherBranch, NoBranch, ABranch, Choices, NoChoice, MoreChoices, RowTree, StateTree, SectionTree, Declarations, Equations, ATable, ADiagram, SomeVectors, DontCareSection, Use, uses, member_uses, one_member_uses, all_uses, statement_uses, else_uses, statements_uses, list_uses, with_uses, branch_uses, other_uses, choices_uses, branches_uses, rows_uses, states_uses, section_uses, with_parts, name_step, part_step, parted_step, use_of, value_step, Progress, used, section_step}
use Rattle.std.proofs.lemmas.Grind.{flat_map-append}
use Rattle.abel_tree.specs.Extensions.{innermost}
use Rattle.name_uses.specs.NamesUsed.{UsedName, names_used, members_used, member_used}
use Rattle.name_uses.specs.Parts.{PartTree, parts_in_statement, parts_in_else, parts_in_statements, parts_in_with, parts_in_branch, parts_in_other, parts_in_choices, parts_in_state, parts_in_row, parts_in_section}

names_folded : (s : Progress) (us : List UsedName) → fold name_step s us ≡ fold used s (map use_of us)
names_folded s [] = refl
names_folded s (u ∷ us) = names_folded (name_step s u) us

-- ---- expressions

mutual
  names_are_uses : (o : Option Extension) (t : Tree) → map use_of (names_used o t) ≡ uses t
  names_are_uses o (ANumber n) = refl
  names_are_uses o (ASpecial letter p) = refl
  names_are_uses o (AName word e) = refl
  names_are_uses o (ASet p ms e) = members_are_uses (innermost e o) ms
  names_are_uses o (AParen p t) = names_are_uses o t
  names_are_uses o (AUnary sign p t) = names_are_uses o t
  names_are_uses o (ABinary sign p t u) = map-append use_of (names_used o t) (names_used o u) ∙ ap₂ (λ a b. a ++ b) (names_are_uses o t) (names_are_uses o u)

  members_are_uses : (o : Option Extension) (ms : Members) → map use_of (members_used o ms) ≡ member_uses ms
  members_are_uses o NoMember = refl
  members_are_uses o (MoreMembers m ms) = map-append use_of (member_used o m) (members_used o ms) ∙ ap₂ (λ a b. a ++ b) (member_is_uses o m) (members_are_uses o ms)

  member_is_uses : (o : Option Extension) (m : SetMember) → map use_of (member_used o m) ≡ one_member_uses m
  member_is_uses o (OneMember t) = names_are_uses o t
  member_is_uses o (SpanMember first last) = refl

value_is_used : (s : Progress) (t : Tree) → value_step s t ≡ fold used s (uses t)
value_is_used s t = names_folded s (names_used None t) ∙ ap (fold used s) (names_are_uses None t)

pub values_are_used : (s : Progress) (ts : List Tree) → fold value_step s ts ≡ fold used s (all_uses ts)
values_are_used s [] = refl
values_are_used s (t ∷ ts) =
    values_are_used (value_step s t) ts
    ∙ (ap (λ x. fold used x (all_uses ts)) (value_is_used s t) ∙ sym (fold-append used s (uses t) (all_uses ts)))

-- ---- the parts of sections

abbrev part_uses : PartTree → List Use
part_uses p = map use_of p.uses

abbrev all_part_uses : List PartTree → List Use
all_part_uses ps = flat_map part_uses ps

parts_folded : (s : Progress) (ps : List PartTree) → fold part_step s ps ≡ fold used s (all_part_uses ps)
parts_folded s [] = refl
parts_folded s (p ∷ ps) =
    parts_folded (part_step s p) ps
    ∙ (ap (λ x. fold used x (all_part_uses ps)) (names_folded s p.uses) ∙ sym (fold-append used s (part_uses p) (all_part_uses ps)))

-- the uses of two lists of parts, one after the other
both : (ps qs : List PartTree) (us vs : List Use) → all_part_uses ps ≡ us → all_part_uses qs ≡ vs → all_part_uses (ps ++ qs) ≡ us ++ vs
both ps qs us vs e f = flat_map-append part_uses ps qs ∙ ap₂ (λ a b. a ++ b) e f

mutual
  in_statement : (s : Statement) → all_part_uses (parts_in_statement s) ≡ statement_uses s
  in_statement (AnAssign p complement target sign q value) =
      ap₂ (λ a b. a ++ b) (names_are_uses None target) (append-nil (map use_of (names_used None value)) ∙ names_are_uses None value)
  in_statement (AWhen p c s other) =
      ap₂ (λ a b. a ++ b) (names_are_uses None c)
      (both (parts_in_statement s) (parts_in_else other) (statement_uses s) (else_uses other) (in_statement s) (in_else other))
  in_statement (AGroup ss) = in_statements ss
  in_statement (ADontCare d) = refl

  in_else : (other : Otherwise) → all_part_uses (parts_in_else other) ≡ else_uses other
  in_else NoElse = refl
  in_else (AnElse s) = in_statement s

  in_statements : (ss : Statements) → all_part_uses (parts_in_statements ss) ≡ statements_uses ss
  in_statements NoStatement = refl
  in_statements (MoreStatements s ss) = both (parts_in_statement s) (parts_in_statements ss) (statement_uses s) (statements_uses ss) (in_statement s) (in_statements ss)

in_list : (ss : List Statement) → all_part_uses (flat_map parts_in_statement ss) ≡ list_uses ss
in_list [] = refl
in_list (s ∷ ss) = both (parts_in_statement s) (flat_map parts_in_statement ss) (statement_uses s) (list_uses ss) (in_statement s) (in_list ss)

in_with : (o : Option (List Statement)) → all_part_uses (parts_in_with o) ≡ with_uses o
in_with None = refl
in_with (Some ss) = in_list ss

mutual
  in_branch : (b : Branch) → all_part_uses (parts_in_branch b) ≡ branch_uses b
  in_branch (AGoal p value ss) = ap₂ (λ a b. a ++ b) (names_are_uses None value) (in_with ss)
  in_branch (AnIf p c b other) =
      ap₂ (λ a b. a ++ b) (names_are_uses None c)
      (both (parts_in_branch b) (parts_in_other other) (branch_uses b) (other_uses other) (in_branch b) (in_other other))
  in_branch (ACase p cs) = in_choices cs

  in_other : (other : OtherBranch) → all_part_uses (parts_in_other other) ≡ other_uses other
  in_other NoBranch = refl
  in_other (ABranch b) = in_branch b

  in_choices : (cs : Choices) → all_part_uses (parts_in_choices cs) ≡ choices_uses cs
  in_choices NoChoice = refl
  in_choices (MoreChoices c p b cs) =
      ap₂ (λ a b. a ++ b) (names_are_uses None c)
      (both (parts_in_branch b) (parts_in_choices cs) (branch_uses b) (choices_uses cs) (in_branch b) (in_choices cs))

in_branches : (bs : List Branch) → all_part_uses (flat_map parts_in_branch bs) ≡ branches_uses bs
in_branches [] = refl
in_branches (b ∷ bs) = both (parts_in_branch b) (flat_map parts_in_branch bs) (branch_uses b) (branches_uses bs) (in_branch b) (in_branches bs)

in_states : (ss : List StateTree) → all_part_uses (flat_map parts_in_state ss) ≡ states_uses ss
in_states [] = refl
in_states (s ∷ ss) =
    ap₂ (λ a b. a ++ b) (names_are_uses None s.value)
    (both (flat_map parts_in_statement s.statements ++ flat_map parts_in_branch s.transitions) (flat_map parts_in_state ss)
    (list_uses s.statements ++ branches_uses s.transitions) (states_uses ss)
    (both (flat_map parts_in_statement s.statements) (flat_map parts_in_branch s.transitions) (list_uses s.statements) (branches_uses s.transitions) (in_list s.statements) (in_branches s.transitions))
    (in_states ss)
    ∙ append_assoc (list_uses s.statements) (branches_uses s.transitions) (states_uses ss))

in_rows : (rs : List RowTree) → all_part_uses (flat_map parts_in_row rs) ≡ rows_uses rs
in_rows [] = refl
in_rows (r ∷ rs) =
    ap₂ (λ a b. a ++ b) (names_are_uses None r.inputs) (ap₂ (λ a b. a ++ b) (names_are_uses None r.outputs) (in_rows rs))

in_section : (x : SectionTree) → all_part_uses (parts_in_section x) ≡ section_uses x
in_section (Declarations ds) = refl
in_section (Equations ss) = in_list ss
in_section (ATable p inputs clocked outputs rows) =
    ap₂ (λ a b. a ++ b) (names_are_uses None inputs) (ap₂ (λ a b. a ++ b) (names_are_uses None outputs) (in_rows rows))
in_section (ADiagram p registers states) = ap₂ (λ a b. a ++ b) (names_are_uses None registers) (in_states states)
in_section (SomeVectors text p inputs outputs rows) =
    ap₂ (λ a b. a ++ b) (names_are_uses None inputs) (ap₂ (λ a b. a ++ b) (names_are_uses None outputs) (in_rows rows))
in_section (DontCareSection d) = refl

-- ---- sections

used_by : (s : Progress) (x : SectionTree) → fold part_step s (parts_in_section x) ≡ fold used s (section_uses x)
used_by s x = parts_folded s (parts_in_section x) ∙ ap (fold used s) (in_section x)

section_is_used : (t : Table) (s : Progress) (x : SectionTree) → parted_step t s (with_parts x) ≡ section_step t s x
section_is_used t s (Declarations ds) = refl
section_is_used t s (Equations ss) = used_by s (Equations ss)
section_is_used t s (ATable p inputs clocked outputs rows) = used_by s (ATable p inputs clocked outputs rows)
section_is_used t s (ADiagram p registers states) = used_by s (ADiagram p registers states)
section_is_used t s (SomeVectors text p inputs outputs rows) = used_by s (SomeVectors text p inputs outputs rows)
section_is_used t s (DontCareSection d) = used_by s (DontCareSection d)

pub sections_are_used : (t : Table) (s : Progress) (xs : List SectionTree) → fold (parted_step t) s (map with_parts xs) ≡ fold (section_step t) s xs
sections_are_used t s [] = refl
sections_are_used t s (x ∷ xs) =
    sections_are_used t (parted_step t s (with_parts x)) xs
    ∙ ap (λ y. fold (section_step t) y xs) (section_is_used t s x)
