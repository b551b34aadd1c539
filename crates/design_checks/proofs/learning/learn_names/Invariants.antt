-- The names that were learnt.
use Rattle.std.proofs.Common.{◌≡◌, map, take}
use Rattle.design_checks.proofs.Common.{view_declared, known_of, context_for, uses_of, values_of}
use Rattle.design_checks.proofs.learning.learn_names.Given as goal

abbrev pub invariant-loop-number : goal.invariant-loop-number
invariant-loop-number g l = l.list.items ≡ values_of (uses_of l.rule (context_for g.D.Device.table l.scope)) (known_of (map view_declared (take l.number l.declared-items)))
