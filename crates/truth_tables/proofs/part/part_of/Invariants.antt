-- What was begun with is what is looked at, under the extension that counts now; if nothing is refused of the one, nothing
-- is of the other.
use Rattle.std.proofs.Common.{◌≡◌, Bool}
use Rattle.truth_tables.proofs.Common.{entries_of, view, Context, names_found, term_of, extended_if, IsClear, IsOver, steps_left}
use Rattle.truth_tables.proofs.part.part_of.Given as goal

abbrev pub invariant-loop-at : goal.invariant-loop-at
invariant-loop-at l =
    record {
      same : (d : Context) → IsOver l.scope d
          → extended_if l.fn.outer (term_of d.known (view l.fn.expr)) ≡ extended_if l.extension (term_of d.known (view l.at));
      clear : (b : Bool) → IsClear b (names_found (entries_of l.scope)) (view l.fn.expr) → IsClear b (names_found (entries_of l.scope)) (view l.at);
    }

abbrev pub decreases-loop-at : goal.decreases-loop-at
decreases-loop-at l = steps_left (entries_of l.scope) (view l.at)
