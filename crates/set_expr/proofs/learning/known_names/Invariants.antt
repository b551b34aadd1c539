-- The names that were learnt.
use Rattle.std.proofs.Common.{map, take}
use Rattle.set_expr.proofs.Common.{view_declared, IsKnown}
use Rattle.set_expr.proofs.learning.known_names.Given as goal

abbrev pub invariant-loop-number : goal.invariant-loop-number
invariant-loop-number l = IsKnown (map view_declared (take l.number l.declared-items)) l.known
