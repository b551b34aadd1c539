-- The names so far.
use Rattle.std.proofs.Common.{◌≡◌, map, take}
use Rattle.decls.proofs.Common.{Table, numbered, Shows, view_given, Progress}
use Rattle.decls.proofs.table.NameTable.buffered.Given as goal

abbrev pub invariant-loop-given : goal.invariant-loop-given
invariant-loop-given l = (t : Table) (s : Progress) → Shows t l.self s → l.list.items ≡ numbered s.entries (map view_given (take l.given-index l.names))
