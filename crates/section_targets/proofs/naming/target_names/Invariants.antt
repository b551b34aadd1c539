-- The names so far.
use Rattle.std.proofs.Common.{map, take, length}
use Rattle.section_targets.proofs.Common.{view_declared, known_of, AreOfTerms}
use Rattle.section_targets.proofs.naming.target_names.Given as goal

abbrev pub invariant-loop-number : goal.invariant-loop-number
invariant-loop-number l = AreOfTerms (length l.declared-items) l.named.items (known_of (map view_declared (take l.number l.declared-items)))
