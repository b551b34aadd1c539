-- Operators in a row, and the statements of a group.
use Rattle.std.proofs.Common.{◌≡◌, List, [], ◌∷◌, ◌++◌, map, rules, refl, sym, ap, ◌∙◌, append_assoc}
use Rattle.std.specs.List.{flat_map}
use Rattle.pld_base.specs.declared.place.Place.{Place}
use Rattle.abel_tree.specs.Entries.{Entry}
use Rattle.abel_tree.specs.Tree.{ABinary, SetMember, Statement, Tree, statements_of}
use Rattle.abel_tree.specs.View.{expr_layer, member_layer, view, view_stmt}
use Rattle.abel_tree.specs.declared.expressions.Expr.{Expr}
use Rattle.abel_tree.specs.declared.expressions.Expr as expr
use Rattle.abel_tree.specs.declared.expressions.Expr.TheFolds.{fold-roll-Expr}
use Rattle.abel_tree.specs.declared.expressions.Expr.TheOpen as open_expr
use Rattle.abel_tree.specs.declared.statements.Stmt.{Stmt, the_lemmas as stmt_lemmas}
use Rattle.abel_tree.specs.declared.statements.Stmt as stmt
use Rattle.abel_tree.specs.declared.words.Binary.{Binary}
use Rattle.reports.specs.Warnings.{is_sum, sum_if, sums_in, sums_in_statement, sums_in_statements}
use Rattle.reports.specs.declared.warning.Warning.{Warning}

view_binary : (s : Binary) (p : Place) (l r : Expr) → view (expr.Binary s p l r) ≡ ABinary s p (view l) (view r)
unfolding expr.roll-Expr denote.Hole.Carrier.roll
view_binary s p l r = fold-roll-Expr Tree SetMember expr_layer member_layer (open_expr.Binary s p l r)

-- an operator and its right side are reported, and its left side is left
pub sums_down : (es : List Entry) (s : Binary) (p : Place) (l r : Expr) (before told after all : List Warning) → told ≡ before ++ sum_if (is_sum es s (view l) (view r)) p
    → after ≡ told ++ sums_in es (view r) → before ++ sums_in es (view (expr.Binary s p l r)) ≡ all → after ++ sums_in es (view l) ≡ all
sums_down es s p l r before told after all here right so =
    ap (λ (ws : List Warning). ws ++ sums_in es (view l)) (right ∙ ap (λ (ws : List Warning). ws ++ sums_in es (view r)) here)
    ∙ append_assoc (before ++ sum_if (is_sum es s (view l) (view r)) p) (sums_in es (view r)) (sums_in es (view l))
    ∙ append_assoc before (sum_if (is_sum es s (view l) (view r)) p) (sums_in es (view r) ++ sums_in es (view l))
    ∙ ap (λ (t : Tree). before ++ sums_in es t) (sym (view_binary s p l r))
    ∙ so

statements_listed : (es : List Entry) (ss : List Statement) → sums_in_statements es (statements_of ss) ≡ flat_map (sums_in_statement es) ss
statements_listed es [] = refl
statements_listed es (s ∷ ss) = ap (λ (ws : List Warning). sums_in_statement es s ++ ws) (statements_listed es ss)

group_statements : (es : List Entry) (list : List Stmt) → sums_in_statement es (view_stmt (stmt.Group list)) ≡ sums_in_statements es (statements_of (map view_stmt list))
group_statements es list = search (rules, stmt_lemmas)

pub group_sums : (es : List Entry) (list : List Stmt) → sums_in_statement es (view_stmt (stmt.Group list)) ≡ flat_map (sums_in_statement es) (map view_stmt list)
group_sums es list = group_statements es list ∙ statements_listed es (map view_stmt list)
