-- What is copied, and what is still to be copied, make up the expression.
use Rattle.std.proofs.Common.{◌≡◌, ◌≤◌, ◌+◌, ◌*◌, length, take, map}
use Rattle.abel_tree.specs.declared.expressions.Expr.{size-Expr}
use Rattle.abel_tree.specs.declared.expressions.Member.{size-Member}
use Rattle.abel_tree.proofs.Regrown.{seen, Regrows}
use Rattle.abel_tree.proofs.expressions.+copies.Given as goal

abbrev pub decreases-Expr::copy : goal.decreases-Expr::copy
decreases-Expr::copy l = 2 * size-Expr l.self.now + 1

abbrev pub decreases-Expr::copy_level : goal.decreases-Expr::copy_level
decreases-Expr::copy_level l = 2 * size-Expr l.self.now

abbrev pub decreases-Member::copy : goal.decreases-Member::copy
decreases-Member::copy l = 2 * size-Member l.self.now

abbrev pub invariant-Expr::copy-down : goal.invariant-Expr::copy-down
invariant-Expr::copy-down l = Regrows l.first (map seen l.links.items) l.self × (size-Expr l.first ≤ size-Expr l.self)

abbrev pub decreases-Expr::copy-up : goal.decreases-Expr::copy-up
decreases-Expr::copy-up l = length l.links.items

abbrev pub invariant-Expr::copy-up : goal.invariant-Expr::copy-up
invariant-Expr::copy-up l = Regrows l.whole (map seen l.links.items) l.self

abbrev pub invariant-Expr::copy_level-loop-member : goal.invariant-Expr::copy_level-loop-member
invariant-Expr::copy_level-loop-member l = l.list.items ≡ take l.member-index l.member-items
