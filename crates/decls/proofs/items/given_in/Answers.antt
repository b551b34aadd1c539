-- One item more.
use Rattle.std.proofs.Common.{◌++◌, map, sym, ap, ◌∙◌}
use Rattle.decls.proofs.Common.{item_names, given_by}
use Rattle.decls.proofs.Folded.{given_more}
use Rattle.decls.proofs.items.given_in.Goals as goal

pub loop-item-preserved : goal.loop-item-preserved
loop-item-preserved c =
    let l = c.loop-item in
    c.in_ok-add_item.ensures
    ∙ (ap (λ xs. xs ++ map (given_by c.item-item.result) (item_names c.item-item.result)) l.invariant
    ∙ sym (given_more c.args.items.now l.item-index c.item-item.result c.loop-item-test.true c.item-item.is))
