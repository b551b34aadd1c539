-- Those of the pins so far.
use Rattle.std.proofs.Common.{◌≡◌, filter, map, not, take}
use Rattle.abel_meaning.specs.SignalPins.{is_taken}
use Rattle.abel_tree.specs.Entries.{view_declared}
use Rattle.model_choice.proofs.cells.untaken.Given as goal

abbrev pub invariant-loop-pin : goal.invariant-loop-pin
invariant-loop-pin l = l.free.items ≡ filter (λ pin. not (is_taken (map view_declared l.names) pin)) (take l.pin-index l.pins)
