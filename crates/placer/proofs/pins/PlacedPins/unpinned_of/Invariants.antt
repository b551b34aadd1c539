-- The names so far that stay what they are.
use Rattle.std.proofs.Common.{◌≡◌, map, take}
use Rattle.placer.proofs.Common.{view_declared, view_given, AreKnown, items_left, node_given}
use Rattle.placer.proofs.pins.PlacedPins.unpinned_of.Given as goal

abbrev pub invariant-loop-one : goal.invariant-loop-one
invariant-loop-one l = AreKnown (map view_declared l.names) → l.list.items ≡ items_left (node_given (map view_declared l.names) l.self) (map view_given (take l.one-index l.given))
