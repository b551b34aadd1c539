-- What represents the sections so far.
use Rattle.std.proofs.Common.{◌≡◌, map}
use Rattle.placer.proofs.Common.{view_declared, view_section, AreKnown, section_given}
use Rattle.placer.proofs.pins.PlacedPins.placed_sections.Given as goal

abbrev pub invariant-loop-section : goal.invariant-loop-section
invariant-loop-section l = AreKnown (map view_declared l.names) → map view_section l.list.items ≡ map (section_given (map view_declared l.names) l.self) (map view_section l.yielded)
