-- Sections one after the other.
use Rattle.std.proofs.Common.{◌≡◌, map, take}
use Rattle.design_checks.proofs.Common.{first_refusal, view_section, context_for, use_order, sections_refused}
use Rattle.design_checks.proofs.spelling.other_spelling.Given as goal

abbrev pub invariant-loop-section : goal.invariant-loop-section
invariant-loop-section g l =
    l.first ≡ first_refusal use_order (sections_refused (context_for g.D.Device.table l.scope) (map view_section (take l.section-index l.sections)))
