-- No declaration of the sections so far names a device.
use Rattle.std.proofs.Common.{◌≡◌, None, map, take}
use Rattle.decls.proofs.Common.{view_section, section_declarations, first_string}
use Rattle.decls.proofs.device.string_in_sections.Given as goal

abbrev pub invariant-loop-section : goal.invariant-loop-section
invariant-loop-section l = first_string (section_declarations (map view_section (take l.section-index l.sections))) ≡ None
