-- One position more, or none.
use Rattle.std.proofs.Common.{add-one, ◌≤◌, ◌<◌, length, false, sym, subst, arith, ◌∙◌}
use Rattle.expr_bits.proofs.PositionWords.{next, kept_all, kept_dropped, kept_stays}
use Rattle.expr_bits.proofs.positions.kept_word.Goals as goal
use Rattle.expr_bits.proofs.positions.kept_word.Goals.{then-not-dropped-index+in_ok-push, else-not-dropped-index}

pub loop-index-preserved : goal.loop-index-preserved
loop-index-preserved c =
    let both = subst (λ n. c.loop-index.index < n) c.min-index-end.ensures c.loop-index-test.true in
    let flag : c.loop-index.index < length c.args.dropped.now = omega (arith, both) in
    let bit : c.loop-index.index < length c.args.word.now = omega (arith, both) in
    elim c.if-not-dropped-index.branch [
      | then-not-dropped-index+in_ok-push w ↦ rw (w.ids-is, w.in_ok-push.ensures.items, add-one c.loop-index.index) (next _ _ _ _ (kept_stays c.args.dropped.now c.args.word.now c.loop-index.index false (record { 0 = 0 }) flag bit w.if-not-dropped-index.true) c.loop-index.invariant)
      | else-not-dropped-index w ↦ rw (w.ids-is, add-one c.loop-index.index) (c.loop-index.invariant ∙ sym (kept_dropped c.args.dropped.now c.args.word.now c.loop-index.index false (record { 0 = 0 }) flag bit w.if-not-dropped-index.false))
    ]

pub returns : goal.returns
returns c = c.loop-index.invariant ∙ kept_all c.args.dropped.now c.args.word.now c.loop-index.index (subst (λ n. n ≤ c.loop-index.index) c.min-index-end.ensures c.loop-index-test.false)
