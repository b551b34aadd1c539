-- The names of the range so far are marked.
use Rattle.std.proofs.Common.{map, take}
use Rattle.declared_names.proofs.Common.{read_names, name_items, AreMarked}
use Rattle.declared_names.proofs.numbers.FirstNames.mark_use.Given as goal

abbrev pub invariant-loop-name : goal.invariant-loop-name
invariant-loop-name l = AreMarked l.self l.fn.marks.items l.marks.items (λ of. read_names of l.asked (map name_items (take l.name-index l.names)))
