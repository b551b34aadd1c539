-- The parts on the stack have their signals before those that were listed; each step leaves fewer parts.
use Rattle.std.proofs.Common.{reverse}
use Rattle.truth_tables.proofs.Common.{sum_by, entries_of, Context, Term, known_of, IsOver, part_parts, IsPart, listing, Walked}
use Rattle.truth_tables.proofs.parts.part_signals.Given as goal

abbrev pub invariant-loop-top : goal.invariant-loop-top
invariant-loop-top l =
    (d : Context) (t : Term) → IsOver l.scope d → IsPart d l.part t → Walked (IsPart d) listing t l.stack.items (reverse l.signals.items)

abbrev pub decreases-loop-top : goal.decreases-loop-top
decreases-loop-top l = sum_by (part_parts (known_of (entries_of l.scope))) l.stack.items
