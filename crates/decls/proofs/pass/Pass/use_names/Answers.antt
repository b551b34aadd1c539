-- One item more.
use Rattle.std.proofs.Common.{subst}
use Rattle.decls.proofs.Common.{view_use, name_step, Follows}
use Rattle.decls.proofs.Folded.{folded_more}
use Rattle.decls.proofs.pass.Pass.use_names.Goals as goal

pub loop-name-preserved : goal.loop-name-preserved
loop-name-preserved c = λ m s sh.
    let l = c.loop-name in
    subst (Follows m c.use_one.new.self) (folded_more name_step view_use s c.args.names.now l.name-index c.name-item.result c.loop-name-test.true c.name-item.is) (c.in_ok-use_one.ensures m _ (l.invariant m s sh))
