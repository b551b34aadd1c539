-- The first operand and the right sides that wait make up the expression; what was listed is in order.
use Rattle.std.proofs.Common.{◌≡◌, ◌≤◌, ◌+◌, ◌*◌, ◌++◌, length, take, map}
use Rattle.name_uses.proofs.Common.{flat_map, size-Expr, size-Member, view, view_member, member_used, names_used, view_use}
use Rattle.name_uses.proofs.Unrolled.{Unrolls, EachBelow, rights_used, expr_at}
use Rattle.name_uses.proofs.uses.+uses.Given as goal

abbrev pub decreases-put_expr : goal.decreases-put_expr
decreases-put_expr l = 2 * size-Expr l.expr.now + 1

abbrev pub decreases-put_level : goal.decreases-put_level
decreases-put_level l = 2 * size-Expr l.expr.now

abbrev pub decreases-put_member : goal.decreases-put_member
decreases-put_member l = 2 * size-Member l.member.now

abbrev pub decreases-put_members : goal.decreases-put_members
decreases-put_members l = 2 * goal.size-put_members l + 1

abbrev pub invariant-put_expr-down : goal.invariant-put_expr-down
invariant-put_expr-down l = Unrolls l.outer l.first (map expr_at l.rights.items) l.expr × (size-Expr l.first ≤ size-Expr l.expr)

abbrev pub decreases-put_expr-up : goal.decreases-put_expr-up
decreases-put_expr-up l = length l.rights.items

abbrev pub invariant-put_expr-up : goal.invariant-put_expr-up
invariant-put_expr-up l = record {
  below : EachBelow (size-Expr l.expr) (map expr_at l.rights.items);
  listed : map view_use l.uses.items ++ rights_used l.outer (map expr_at l.rights.items) ≡ map view_use l.fn.uses.items ++ names_used l.outer (view l.expr);
}

abbrev pub invariant-put_members-loop-member : goal.invariant-put_members-loop-member
invariant-put_members-loop-member l = map view_use l.uses.items ≡ map view_use l.fn.uses.items ++ flat_map (member_used l.outer) (map view_member (take l.member-index l.members))
