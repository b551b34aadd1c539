-- The first refusal so far.
use Rattle.std.proofs.Common.{◌≡◌, ◌++◌, List, map, take}
use Rattle.declared_names.proofs.Common.{view_declared, first_refusal, NameFault, name_order, registers_refused}
use Rattle.declared_names.proofs.registers.first_refused.Given as goal

abbrev pub invariant-loop-name : goal.invariant-loop-name
invariant-loop-name g l = (fs : List NameFault) → l.fn.fault ≡ first_refusal name_order fs → l.first ≡ first_refusal name_order (fs ++ registers_refused (map view_declared l.list) (take l.name-index l.names))
