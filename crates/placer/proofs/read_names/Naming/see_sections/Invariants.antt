-- The sections so far.
use Rattle.std.proofs.Common.{map, take}
use Rattle.placer.proofs.Common.{flat_map, view_section_parts, AreSeen, parts_of}
use Rattle.placer.proofs.read_names.Naming.see_sections.Given as goal

abbrev pub invariant-loop-section : goal.invariant-loop-section
invariant-loop-section l = AreSeen l.self (flat_map parts_of (map view_section_parts (take l.section-index l.sections))) l.seen
