-- Each turn goes one operator down; what is reported and what is left of the expression are the
-- whole.
use Rattle.std.proofs.Common.{◌≡◌, ◌≤◌, ◌++◌}
use Rattle.abel_tree.specs.Entries.{entries_of}
use Rattle.abel_tree.specs.View.{view}
use Rattle.abel_tree.specs.declared.expressions.Expr.{size-Expr}
use Rattle.reports.specs.Warnings.{sums_in}
use Rattle.reports.proofs.sums.+sums.Given as goal

abbrev pub decreases-find_sums : goal.decreases-find_sums
decreases-find_sums l = size-Expr l.expr.now

abbrev pub invariant-down : goal.invariant-down
invariant-down l = record {
  below : size-Expr l.first ≤ size-Expr l.expr;
  told : l.found ++ sums_in (entries_of l.names) (view l.first) ≡ l.initial.found ++ sums_in (entries_of l.names) (view l.expr);
}
