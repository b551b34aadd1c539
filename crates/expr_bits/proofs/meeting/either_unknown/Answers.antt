-- One position more, and all positions.
use Rattle.std.proofs.Common.{add-one, ◌<◌, ◌≤◌, ◌∙◌, subst}
use Rattle.expr_bits.proofs.Shaped.{either_all, either_next}
use Rattle.expr_bits.proofs.PositionWords.{next}
use Rattle.expr_bits.proofs.meeting.either_unknown.Goals as goal

pub loop-index-preserved : goal.loop-index-preserved
loop-index-preserved c = rw (c.in_ok-push.ensures.items, c.either_at.ensures, add-one c.loop-index.index) (next _ _ _ _ (either_next c.args.left.now c.args.right.now c.loop-index.index (subst (λ n. c.loop-index.index < n) c.max-index-end.ensures c.loop-index-test.true)) c.loop-index.invariant)

pub returns : goal.returns
returns c = c.loop-index.invariant ∙ either_all c.args.left.now c.args.right.now c.loop-index.index (subst (λ n. n ≤ c.loop-index.index) c.max-index-end.ensures c.loop-index-test.false)
