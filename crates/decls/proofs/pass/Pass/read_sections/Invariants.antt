-- The items so far.
use Rattle.std.proofs.Common.{fold, map, take}
use Rattle.decls.proofs.Common.{parted_step, view_section_parts, Follows, Way, Progress}
use Rattle.decls.proofs.pass.Pass.read_sections.Given as goal

abbrev pub invariant-loop-section : goal.invariant-loop-section
invariant-loop-section l = (t : Way) (s : Progress) → Follows t l.fn.self s → Follows t l.self (fold (parted_step t.table) s (map view_section_parts (take l.section-index l.sections)))
