-- So many positions are given.
use Rattle.std.proofs.Common.{◌≡◌, drop}
use Rattle.truth_tables.proofs.Common.{arena, entries_of, Context, Keeps, matched_guard}
use Rattle.truth_tables.proofs.WorkLaws.{IsLeft}
use Rattle.truth_tables.proofs.GivenLaws.{positions_work}
use Rattle.truth_tables.proofs.giving.give_positions.Given as goal

abbrev pub invariant-loop-index : goal.invariant-loop-index
invariant-loop-index l =
    Keeps (arena l.fn.exprs) (arena l.exprs)
    × ((d : Context) → d.names ≡ entries_of l.matching.scope.now
    → IsLeft (positions_work d (matched_guard (arena l.fn.exprs) l.matching.assigning.guard l.matching.bit) l.matching.assigning.clocked l.outputs l.levels)
    (positions_work d (matched_guard (arena l.fn.exprs) l.matching.assigning.guard l.matching.bit) l.matching.assigning.clocked (drop l.index l.outputs) (drop l.index l.levels))
    (record { exprs = l.fn.exprs; list = l.fn.list.items }) (record { exprs = l.exprs; list = l.list.items }))
