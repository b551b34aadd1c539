-- The words of the names so far.
use Rattle.std.proofs.Common.{◌≡◌, Bool, map, take}
use Rattle.decls.proofs.Common.{list_any, Table, Words, words_of_names, Shows, view_given, view_said, Progress}
use Rattle.decls.proofs.table.NameTable.words_before.Given as goal

abbrev pub invariant-loop-given : goal.invariant-loop-given
invariant-loop-given l = (t : Table) (s : Progress) (p : Words → Bool) → Shows t l.self s → list_any p (map view_said l.befores.items) ≡ list_any p (words_of_names s.entries (map view_given (take l.given-index l.names)))
