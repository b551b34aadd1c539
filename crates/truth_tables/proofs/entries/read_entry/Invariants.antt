-- The pairs on the stack have their marks before those that were put; each step leaves fewer parts of the header.
use Rattle.truth_tables.proofs.Common.{sum_by, entries_of, view, Context, known_of, term_of, Pair, IsOver, IsPair, meeting, seen, part_parts, Walked}
use Rattle.truth_tables.proofs.entries.read_entry.Given as goal

abbrev pub invariant-loop-pair : goal.invariant-loop-pair
invariant-loop-pair l =
    (d : Context) → IsOver l.scope d
    → Walked (IsPair d) (meeting d) (term_of d.known (view l.header), term_of d.known (view l.entry)) l.stack.items (seen l.marks.items)

abbrev pub decreases-loop-pair : goal.decreases-loop-pair
decreases-loop-pair l = sum_by (λ (p : Pair). part_parts (known_of (entries_of l.scope)) p.header) l.stack.items
