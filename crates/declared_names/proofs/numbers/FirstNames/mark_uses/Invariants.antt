-- The names so far are marked.
use Rattle.std.proofs.Common.{map, take}
use Rattle.declared_names.proofs.Common.{AreMarked, uses_read, view_use}
use Rattle.declared_names.proofs.numbers.FirstNames.mark_uses.Given as goal

abbrev pub invariant-loop-used : goal.invariant-loop-used
invariant-loop-used l = AreMarked l.self l.fn.marks.items l.marks.items (λ of. uses_read of l.strong (map view_use (take l.used-index l.uses)))
