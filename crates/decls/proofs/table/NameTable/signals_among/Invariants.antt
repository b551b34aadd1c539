-- The signals so far.
use Rattle.std.proofs.Common.{◌≡◌, map}
use Rattle.decls.proofs.Common.{Table, Shows, view_given, Progress, signals_among}
use Rattle.decls.proofs.table.NameTable.signals_among.Given as goal

abbrev pub invariant-loop-given : goal.invariant-loop-given
invariant-loop-given l = (t : Table) (s : Progress) → Shows t l.self s → map view_given l.signals.items ≡ signals_among s.entries (map view_given l.yielded)
