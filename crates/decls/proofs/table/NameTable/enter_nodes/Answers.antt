-- One item more.
use Rattle.std.proofs.Common.{subst}
use Rattle.decls.proofs.Common.{node_step, view_given, view_said, Shows}
use Rattle.decls.proofs.Folded.{folded_more}
use Rattle.decls.proofs.table.NameTable.enter_nodes.Goals as goal

pub loop-given-preserved : goal.loop-given-preserved
loop-given-preserved c = λ m s sh.
    let l = c.loop-given in
    subst (Shows m c.enter_node.new.self) (folded_more (node_step (view_said c.args.said)) view_given s c.args.names.now l.given-index c.given-item.result c.loop-given-test.true c.given-item.is) (c.in_ok-enter_node.ensures m _ (l.invariant m s sh))
