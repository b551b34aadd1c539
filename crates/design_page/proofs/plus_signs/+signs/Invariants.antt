-- Each call goes into a part of its expression, each turn one operator down.
use Rattle.std.proofs.Common.{◌≤◌, ◌+◌, ◌*◌}
use Rattle.abel_tree.specs.declared.expressions.Expr.{size-Expr}
use Rattle.abel_tree.specs.declared.expressions.Member.{size-Member}
use Rattle.design_page.proofs.plus_signs.+signs.Given as goal

abbrev pub decreases-add_in_expr : goal.decreases-add_in_expr
decreases-add_in_expr l = 2 * size-Expr l.expr.now

abbrev pub decreases-add_in_member : goal.decreases-add_in_member
decreases-add_in_member l = 2 * size-Member l.member.now

abbrev pub decreases-add_in_members : goal.decreases-add_in_members
decreases-add_in_members l = 2 * goal.size-add_in_members l + 1

abbrev pub invariant-add_in_expr-down : goal.invariant-add_in_expr-down
invariant-add_in_expr-down l = size-Expr l.first ≤ size-Expr l.expr
