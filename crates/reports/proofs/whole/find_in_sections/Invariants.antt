-- The warnings of the sections so far follow what was there.
use Rattle.std.proofs.Common.{◌≡◌, ◌++◌, map, take}
use Rattle.std.specs.List.{flat_map}
use Rattle.abel_tree.specs.Entries.{entries_of}
use Rattle.abel_tree.specs.View.{view_section}
use Rattle.reports.specs.Warnings.{warnings_in}
use Rattle.reports.proofs.whole.find_in_sections.Given as goal

abbrev pub invariant-loop-section : goal.invariant-loop-section
invariant-loop-section l = l.found ≡ l.fn.found ++ flat_map (warnings_in (entries_of l.names)) (map view_section (take l.section-index l.sections))
