-- The first of the names so far.
use Rattle.std.proofs.Common.{◌≡◌, map, take}
use Rattle.design_checks.proofs.Common.{view_declared, first_refusal, use_order, registered_nodes}
use Rattle.design_checks.proofs.name_facts.registered_node.Given as goal

abbrev pub invariant-loop-number : goal.invariant-loop-number
invariant-loop-number l = l.first ≡ first_refusal use_order (registered_nodes 0 (map view_declared (take l.number l.declared-items)))
