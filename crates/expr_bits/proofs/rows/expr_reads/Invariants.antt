-- What is read so far.
use Rattle.std.proofs.Common.{length, map, take}
use Rattle.expr_bits.proofs.Common.{list_any, entries_of, Context, known_of, view_use, Finds, used_answer, AreRows}
use Rattle.expr_bits.proofs.rows.expr_reads.Given as goal

abbrev pub invariant-loop-used : goal.invariant-loop-used
invariant-loop-used l =
    let known = known_of (take (length l.rows) (entries_of l.scope)) in
    (d : Context) → AreRows (entries_of l.scope) d 0 l.rows → Finds l.reads (λ q. list_any (used_answer d known q) (map view_use (take l.used-index l.used-items)))
