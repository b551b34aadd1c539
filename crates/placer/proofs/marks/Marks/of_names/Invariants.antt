-- The mark of the names so far.
use Rattle.std.proofs.Common.{map, take}
use Rattle.placer.proofs.Common.{signals_of_names, name_items, IsMarkOf}
use Rattle.placer.proofs.marks.Marks.of_names.Given as goal

abbrev pub invariant-loop-name : goal.invariant-loop-name
invariant-loop-name l = IsMarkOf l.self (λ ks. signals_of_names ks (map name_items (take l.name-index l.names))) l.mark
