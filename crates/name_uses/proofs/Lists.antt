-- The lists of the tree, which are types of their own there, as lists.
use Rattle.std.proofs.Common.{◌≡◌, List, [], ◌∷◌, ◌++◌, Option, map, rules, refl, ap, ◌∙◌}
use Rattle.name_uses.proofs.Common.{flat_map, Place, Extension, expr_lemmas, Member, without_extension, Tree, SetMember, members_of, Statement, statements_of, Branch, choices_of, view, view_member, view_stmt, member_used, members_used, names_used, parts_in_choice, parts_in_choices, parts_in_statement, parts_in_statements}
use Rattle.abel_tree.specs.declared.statements.Stmt.{Stmt, the_lemmas as stmt_lemmas}
use Rattle.abel_tree.specs.declared.statements.Stmt as stmt
use Rattle.abel_tree.specs.declared.expressions.Expr as expr
use Rattle.abel_tree.specs.Extensions.{innermost}

members_listed : (outer : Option Extension) (ms : List SetMember) → members_used outer (members_of ms) ≡ flat_map (member_used outer) ms
members_listed outer [] = refl
members_listed outer (m ∷ ms) = ap (λ us. member_used outer m ++ us) (members_listed outer ms)

statements_listed : (ss : List Statement) → parts_in_statements (statements_of ss) ≡ flat_map parts_in_statement ss
statements_listed [] = refl
statements_listed (s ∷ ss) = ap (λ ps. parts_in_statement s ++ ps) (statements_listed ss)

pub choices_listed : (cs : List (Tree × (Place × Branch))) → parts_in_choices (choices_of cs) ≡ flat_map parts_in_choice cs
choices_listed [] = refl
choices_listed (c ∷ cs) = ap (λ ps. parts_in_choice c ++ ps) (choices_listed cs)

-- ---- a set and a group of the code

set_members : (outer e : Option Extension) (p : Place) (ms : List Member) → names_used outer (view (expr.Set p ms e)) ≡ members_used (innermost e outer) (members_of (map view_member ms))
set_members outer e p ms = search (rules, expr_lemmas)

pub set_uses : (outer e : Option Extension) (p : Place) (ms : List Member) → names_used outer (view (expr.Set p ms e)) ≡ flat_map (member_used (innermost e outer)) (map view_member ms)
set_uses outer e p ms = set_members outer e p ms ∙ members_listed (innermost e outer) (map view_member ms)

target_members : (outer e : Option Extension) (p : Place) (ms : List Member) → names_used outer (without_extension (view (expr.Set p ms e))) ≡ members_used outer (members_of (map view_member ms))
target_members outer e p ms = search (rules, expr_lemmas)

pub target_uses : (outer e : Option Extension) (p : Place) (ms : List Member) → names_used outer (without_extension (view (expr.Set p ms e))) ≡ flat_map (member_used outer) (map view_member ms)
target_uses outer e p ms = target_members outer e p ms ∙ members_listed outer (map view_member ms)

group_statements : (list : List Stmt) → parts_in_statement (view_stmt (stmt.Group list)) ≡ parts_in_statements (statements_of (map view_stmt list))
group_statements list = search (rules, stmt_lemmas)

pub group_parts : (list : List Stmt) → parts_in_statement (view_stmt (stmt.Group list)) ≡ flat_map parts_in_statement (map view_stmt list)
group_parts list = group_statements list ∙ statements_listed (map view_stmt list)
