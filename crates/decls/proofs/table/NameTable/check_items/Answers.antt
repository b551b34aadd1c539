-- One item more.
use Rattle.std.proofs.Common.{subst}
use Rattle.decls.proofs.Common.{item_refused, items_refused, Shows}
use Rattle.decls.proofs.Folded.{refused_more, items_push}
use Rattle.decls.proofs.table.NameTable.check_items.Goals as goal

pub loop-item-preserved : goal.loop-item-preserved
loop-item-preserved c = λ m s sh.
    let l = c.loop-item in
    subst (Shows m c.check_item.new.self) (refused_more (items_refused s.entries) (item_refused s.entries) (items_push s.entries) s c.args.items.now l.item-index c.item-item.result c.loop-item-test.true c.item-item.is) (c.in_ok-check_item.ensures m _ (l.invariant m s sh))
