-- What the other states leave after those that are listed, and what is after them, is so of all; and the bits so far.
use Rattle.std.proofs.Common.{◌≡◌, None, [], drop, map, take}
use Rattle.state_diagrams.proofs.Common.{arena, view_state, context_for, Walked, AreBits, StandsStates, WalksStates, state_bits}
use Rattle.state_diagrams.proofs.states.walk_states.Given as goal

abbrev pub invariant-loop-state : goal.invariant-loop-state
invariant-loop-state g l =
    record {
      walks : (later : Walked) → WalksStates g.D.Device.table l.machine l.guard l.listed.items (map view_state (drop l.state-index l.states)) l.out later
          → WalksStates g.D.Device.table l.machine l.guard [] (map view_state l.states) l.fn.out later;
      stands : (later : Walked) → StandsStates g.D.Device.table l.machine l.guard (map view_state (drop l.state-index l.states)) l.out later
          → StandsStates g.D.Device.table l.machine l.guard (map view_state l.states) l.fn.out later;
      bits : l.out.fault ≡ None → AreBits (arena l.out.exprs) l.bits.items (state_bits (context_for g.D.Device.table l.machine.scope.now) l.machine.registers.now (map view_state (take l.state-index l.states)));
    }
