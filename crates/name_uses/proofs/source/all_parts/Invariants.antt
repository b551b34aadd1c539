-- The sections so far, each with its parts.
use Rattle.std.proofs.Common.{◌≡◌, map, take}
use Rattle.name_uses.proofs.Common.{view_section, view_section_parts, with_parts}
use Rattle.name_uses.proofs.source.all_parts.Given as goal

abbrev pub invariant-loop-section : goal.invariant-loop-section
invariant-loop-section l = map view_section_parts l.list.items ≡ map with_parts (map view_section (take l.section-index l.sections))
