-- One number more.
use Rattle.std.proofs.Common.{[], ◌∷◌, ◌++◌, map, sym, ap, ap₂, ◌∙◌, append_assoc, arith}
use Rattle.decls.proofs.Common.{range_with_len, map-range_with_len_more, number_at}
use Rattle.decls.proofs.spans.put_range.Goals as goal

pub loop-step-preserved : goal.loop-step-preserved
loop-step-preserved c =
    let l = c.loop-step in
    let f = number_at c.args.first c.args.last in
    c.in_ok-push.ensures.items
    ∙ (ap₂ (λ xs y. xs ++ y ∷ []) l.invariant c.number_from.ensures
    ∙ (append_assoc c.args.numbers.now.items (map f (range_with_len 0 l.step)) (f l.step ∷ [])
    ∙ ap (λ xs. c.args.numbers.now.items ++ xs) (sym (map-range_with_len_more f 0 l.step l.step (omega arith)))))
