-- One item more.
use Rattle.std.proofs.Common.{◌++◌, take, subst, sym, ap, ◌∙◌, append_assoc}
use Rattle.decls.proofs.Common.{given_names, Shows}
use Rattle.decls.proofs.Folded.{given_more}
use Rattle.decls.proofs.table.NameTable.wait_for_items.Goals as goal

pub loop-item-preserved : goal.loop-item-preserved
loop-item-preserved c = λ t s sh.
    let l = c.loop-item in
    let i = c.item-item.result in
    let before = given_names (take l.item-index c.args.items.now) in
    subst (λ xs. Shows t c.wait_for.new.self (record s { waiting = xs }))
    (append_assoc s.waiting before _
    ∙ ap (λ xs. s.waiting ++ xs)
    (ap (λ xs. before ++ xs) c.in_ok-given_by_item.ensures
    ∙ sym (given_more c.args.items.now l.item-index i c.loop-item-test.true c.item-item.is)))
    (c.in_ok-wait_for.ensures t _ (l.invariant t s sh))
