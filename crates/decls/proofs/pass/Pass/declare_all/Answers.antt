-- One item more.
use Rattle.std.proofs.Common.{subst}
use Rattle.decls.proofs.Common.{declaration_step, view_decl, Follows}
use Rattle.decls.proofs.Folded.{folded_more}
use Rattle.decls.proofs.pass.Pass.declare_all.Goals as goal

pub loop-decl-preserved : goal.loop-decl-preserved
loop-decl-preserved c = λ m s sh.
    let l = c.loop-decl in
    subst (Follows m c.declare_decl.new.self) (folded_more (declaration_step m.table) view_decl s c.args.decls.now l.decl-index c.decl-item.result c.loop-decl-test.true c.decl-item.is) (c.in_ok-declare_decl.ensures m _ (l.invariant m s sh))
