-- One section more.
use Rattle.std.proofs.Common.{List, map, refl, subst, arith}
use Rattle.placer.proofs.Common.{flat_map, view_part, view_section_parts, AreSeen, parts_of}
use Rattle.name_uses.specs.declared.part.Part.{Part}
use Rattle.placer.proofs.Joins.{no_parts, parts_all, parts_more}
use Rattle.placer.proofs.Mapped.{flat_push}
use Rattle.placer.proofs.read_names.Naming.see_sections.Goals as goal

pub loop-section-init : goal.loop-section-init
loop-section-init c = no_parts c.args.self.now _ refl refl

pub loop-section-preserved : goal.loop-section-preserved
loop-section-preserved c =
    let l = c.loop-section in
    let one = subst (λ (ps : List Part). AreSeen c.args.self.now (map view_part ps) c.in_ok-see_parts.field-0) c.as_slice.ensures.value c.in_ok-see_parts.ensures in
    parts_more c.args.self.now (flat_map parts_of) parts_of (flat_push parts_of) view_section_parts c.args.sections.now l.section-index c.section-item.result _ _ _ c.loop-section-test.true c.section-item.is c.both-seen.ensures l.invariant one

pub returns : goal.returns
returns c = parts_all c.args.self.now (flat_map parts_of) view_section_parts c.args.sections.now c.loop-section.section-index _ (omega (arith, c.loop-section-test.false)) c.loop-section.invariant
