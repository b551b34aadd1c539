-- One place more.
use Rattle.std.proofs.Common.{[], ◌∷◌, ◌++◌, map, get_or, sym, ap, ap₂, ◌∙◌, arith}
use Rattle.placer.proofs.Common.{take_all}
use Rattle.placer.proofs.Mapped.{mapped_next}
use Rattle.placer.proofs.placing.numbers_at.Goals as goal

pub loop-place-preserved : goal.loop-place-preserved
loop-place-preserved c =
    let l = c.loop-place in
    c.in_ok-push.ensures.items
    ∙ (ap₂ (λ xs x. xs ++ x ∷ []) l.invariant c.number_at.ensures
    ∙ sym (mapped_next (λ k. get_or c.args.signals.now k 0) c.args.places.now l.place-index 0 c.loop-place-test.true))

pub returns : goal.returns
returns c =
    let l = c.loop-place in
    l.invariant ∙ ap (map (λ k. get_or c.args.signals.now k 0)) (take_all l.place-index c.args.places.now (omega (arith, c.loop-place-test.false)))
