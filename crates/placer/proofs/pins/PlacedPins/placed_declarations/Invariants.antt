-- What represents the declarations so far.
use Rattle.std.proofs.Common.{◌≡◌, map}
use Rattle.placer.proofs.Common.{view_declared, view_decl, AreKnown, declarations_given}
use Rattle.placer.proofs.pins.PlacedPins.placed_declarations.Given as goal

abbrev pub invariant-loop-decl : goal.invariant-loop-decl
invariant-loop-decl l = AreKnown (map view_declared l.names) → map view_decl l.list.items ≡ declarations_given (map view_declared l.names) l.self (map view_decl l.yielded)
