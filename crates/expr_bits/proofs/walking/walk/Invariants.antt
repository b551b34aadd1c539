-- What was built, and what is left amounts to the whole.
use Rattle.expr_bits.proofs.Common.{entries_of, context_for, task_of, tasks_of, stack_weight}
use Rattle.expr_bits.proofs.Turns.{Walking}
use Rattle.expr_bits.proofs.walking.walk.Given as goal

abbrev pub invariant-turns : goal.invariant-turns
invariant-turns g l =
    Walking (context_for g.D.Device.table l.on.scope.now) l.fn.exprs l.exprs l.values (tasks_of (entries_of l.on.scope.now) l.work.items) (task_of (entries_of l.on.scope.now) l.fn.whole)

-- each turn leaves less work, by weight
abbrev pub decreases-turns : goal.decreases-turns
decreases-turns g l = stack_weight (entries_of l.on.scope.now) l.work.items
