-- The items so far.
use Rattle.std.proofs.Common.{map, ◌++◌}
use Rattle.decls.proofs.Common.{Table, view_given, Shows, Progress}
use Rattle.decls.proofs.table.NameTable.wait_for.Given as goal

abbrev pub invariant-loop-given : goal.invariant-loop-given
invariant-loop-given l = (t : Table) (s : Progress) → Shows t l.fn.self s → Shows t l.self (record s { waiting = s.waiting ++ map view_given l.yielded })
