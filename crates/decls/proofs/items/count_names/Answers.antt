-- One item more.
use Rattle.std.proofs.Common.{◌+◌, length, map, sym, ap, ap₂, ◌∙◌, arith}
use Rattle.decls.proofs.Common.{length-append, length-map, item_names, given_by}
use Rattle.decls.proofs.Folded.{given_more}
use Rattle.decls.proofs.items.count_names.Goals as goal

pub loop-item-preserved : goal.loop-item-preserved
loop-item-preserved c =
    let l = c.loop-item in
    let i = c.item-item.result in
    record {
      counted = ap₂ (λ m n. m + n) l.invariant.counted (c.item_count.ensures ∙ sym (length-map (item_names i) (given_by i)))
          ∙ (sym (length-append _ (map (given_by i) (item_names i)))
          ∙ ap length (sym (given_more c.args.items.now l.item-index i c.loop-item-test.true c.item-item.is)));
      few = omega (arith, l.invariant.few, c.item_count.type_inv);
    }
