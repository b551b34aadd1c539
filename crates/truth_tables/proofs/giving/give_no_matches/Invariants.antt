-- So many outputs have no match.
use Rattle.std.proofs.Common.{◌≡◌, drop}
use Rattle.truth_tables.proofs.Common.{arena, entries_of, Context, Keeps, view_guard}
use Rattle.truth_tables.proofs.WorkLaws.{IsLeft}
use Rattle.truth_tables.proofs.GivenLaws.{no_work}
use Rattle.truth_tables.proofs.giving.give_no_matches.Given as goal

abbrev pub invariant-loop-index : goal.invariant-loop-index
invariant-loop-index l =
    Keeps (arena l.fn.exprs) (arena l.exprs)
    × ((d : Context) → d.names ≡ entries_of l.fn.scope
    → IsLeft (no_work d (view_guard (arena l.fn.exprs) l.fn.assigning.guard) l.fn.assigning.clocked l.outputs)
    (no_work d (view_guard (arena l.fn.exprs) l.fn.assigning.guard) l.fn.assigning.clocked (drop l.index l.outputs))
    (record { exprs = l.fn.exprs; list = l.fn.list.items }) (record { exprs = l.exprs; list = l.list.items }))
