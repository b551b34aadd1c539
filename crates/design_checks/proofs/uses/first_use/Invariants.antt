-- The sections so far.
use Rattle.std.proofs.Common.{◌≡◌, map, take}
use Rattle.design_checks.proofs.Common.{flat_map, view_section_parts, context_for, first_refused, part_uses}
use Rattle.design_checks.proofs.JoinedFirsts.{parts_in}
use Rattle.design_checks.proofs.uses.first_use.Given as goal

abbrev pub invariant-loop-section : goal.invariant-loop-section
invariant-loop-section g l =
    let d = context_for g.D.Device.table l.scope in
    l.first ≡ first_refused l.names.rule d (flat_map (part_uses d) (flat_map parts_in (map view_section_parts (take l.section-index l.section-items))))
