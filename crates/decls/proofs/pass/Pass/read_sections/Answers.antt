-- One item more.
use Rattle.std.proofs.Common.{subst}
use Rattle.decls.proofs.Common.{parted_step, view_section_parts, Follows}
use Rattle.decls.proofs.Folded.{folded_more}
use Rattle.decls.proofs.pass.Pass.read_sections.Goals as goal

pub loop-section-preserved : goal.loop-section-preserved
loop-section-preserved c = λ m s sh.
    let l = c.loop-section in
    subst (Follows m c.read_section.new.self) (folded_more (parted_step m.table) view_section_parts s c.args.sections.now l.section-index c.section-item.result c.loop-section-test.true c.section-item.is) (c.in_ok-read_section.ensures m _ (l.invariant m s sh))
