-- What was begun with is an operator where what is looked at is one.
use Rattle.std.proofs.Common.{◌≡◌}
use Rattle.truth_tables.proofs.Common.{entries_of, view, Context, term_of, IsOver, is_computed, steps_left}
use Rattle.truth_tables.proofs.inputs.has_operator.Given as goal

abbrev pub invariant-loop-at : goal.invariant-loop-at
invariant-loop-at l =
    (d : Context) → IsOver l.scope d → is_computed (term_of d.known (view l.fn.expr)) ≡ is_computed (term_of d.known (view l.at))

abbrev pub decreases-loop-at : goal.decreases-loop-at
decreases-loop-at l = steps_left (entries_of l.scope) (view l.at)
