-- One word more.
use Rattle.std.proofs.Common.{[], ◌∷◌, ◌++◌, sym, ap₂, ◌∙◌, arith}
use Rattle.placer.proofs.Common.{take_all, take_more}
use Rattle.placer.proofs.writing.copies.Goals as goal

pub loop-word-preserved : goal.loop-word-preserved
loop-word-preserved c =
    let l = c.loop-word in
    c.in_ok-push.ensures.items
    ∙ (ap₂ (λ xs x. xs ++ x ∷ []) l.invariant (c.in_ok-copy.ensures ∙ c.word-item.is)
    ∙ sym (take_more c.args.words.now l.word-index c.word-item.result c.loop-word-test.true))

pub returns : goal.returns
returns c =
    let l = c.loop-word in
    c.from_vec.ensures ∙ (l.invariant ∙ take_all l.word-index c.args.words.now (omega (arith, c.loop-word-test.false)))
