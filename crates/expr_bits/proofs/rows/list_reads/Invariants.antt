-- The names that were looked up.
use Rattle.std.proofs.Common.{length, map, take}
use Rattle.expr_bits.proofs.Common.{list_any, entries_of, Context, known_of, name_items, Finds, named_answer, AreRows}
use Rattle.expr_bits.proofs.rows.list_reads.Given as goal

abbrev pub invariant-loop-name : goal.invariant-loop-name
invariant-loop-name l =
    let known = known_of (take (length l.rows) (entries_of l.scope)) in
    (d : Context) → AreRows (entries_of l.scope) d 0 l.rows → Finds l.reads (λ q. list_any (named_answer d known q) (map name_items (take l.name-index l.names)))
