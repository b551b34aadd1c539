-- What is left lies no deeper than what there was.
use Rattle.std.proofs.Common.{◌≤◌}
use Rattle.abel_tree.specs.declared.expressions.Expr.{size-Expr}
use Rattle.abel_tree.proofs.+expr.Given as goal

abbrev pub invariant-expressions::Expr::drop-loop-self : goal.invariant-expressions::Expr::drop-loop-self
invariant-expressions::Expr::drop-loop-self l = size-Expr l.self ≤ size-Expr l.fn.self
