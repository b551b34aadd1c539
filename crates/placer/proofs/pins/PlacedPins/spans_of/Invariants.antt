-- The numbers of the names so far.
use Rattle.std.proofs.Common.{◌≡◌, map, take}
use Rattle.placer.proofs.Common.{view_declared, view_given, pin_given, spans_for}
use Rattle.placer.proofs.pins.PlacedPins.spans_of.Given as goal

abbrev pub invariant-loop-one : goal.invariant-loop-one
invariant-loop-one l = l.spans.items ≡ spans_for (pin_given (map view_declared l.names) l.self) (map view_given (take l.one-index l.given))
