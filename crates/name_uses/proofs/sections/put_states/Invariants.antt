-- The parts of those so far follow what was there.
use Rattle.std.proofs.Common.{◌≡◌, ◌++◌, map, take}
use Rattle.name_uses.proofs.Common.{flat_map, view_state, parts_in_state, view_part}
use Rattle.name_uses.proofs.sections.put_states.Given as goal

abbrev pub invariant-loop-state : goal.invariant-loop-state
invariant-loop-state l = map view_part l.parts.items ≡ map view_part l.fn.parts.items ++ flat_map parts_in_state (map view_state (take l.state-index l.states))
