-- The number is kept as the table keeps it.
use Rattle.std.proofs.Common.{ap}
use Rattle.decls.proofs.Common.{on_ok_weaker, ANode}
use Rattle.decls.proofs.table.NameTable.enter_node.Goals as goal

pub returns : goal.returns
returns c =
    on_ok_weaker c.enter_given.result
    (λ h t s shown. h t _ (ANode s.nodes) (ap ANode (c.kept_node-number.ensures t s shown)) (c.in_ok-count_node.ensures t s shown))
    c.enter_given.ensures
