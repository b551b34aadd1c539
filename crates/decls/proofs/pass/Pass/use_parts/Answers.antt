-- One item more.
use Rattle.std.proofs.Common.{subst}
use Rattle.decls.proofs.Common.{view_part, part_step, Follows}
use Rattle.decls.proofs.Folded.{folded_more}
use Rattle.decls.proofs.pass.Pass.use_parts.Goals as goal

pub loop-part-preserved : goal.loop-part-preserved
loop-part-preserved c = λ m s sh.
    let l = c.loop-part in
    subst (Follows m c.use_part.new.self) (folded_more part_step view_part s c.args.parts.now l.part-index c.part-item.result c.loop-part-test.true c.part-item.is) (c.in_ok-use_part.ensures m _ (l.invariant m s sh))
