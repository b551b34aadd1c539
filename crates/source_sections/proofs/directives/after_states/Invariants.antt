-- After the states that are left it is what it is after all.
use Rattle.std.proofs.Common.{◌≡◌, drop, map}
use Rattle.source_sections.proofs.Common.{view_state, after_states}
use Rattle.source_sections.proofs.directives.after_states.Given as goal

abbrev pub invariant-loop-state : goal.invariant-loop-state
invariant-loop-state l = after_states l.on (map view_state (drop l.state-index l.states)) ≡ after_states l.fn.on (map view_state l.states)
