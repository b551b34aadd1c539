-- One position more, and all positions.
use Rattle.std.proofs.Common.{add-one, ap, arith, ◌∙◌}
use Rattle.expr_bits.proofs.Common.{resized_ids}
use Rattle.expr_bits.proofs.PositionWords.{next, resized_next}
use Rattle.expr_bits.proofs.positions.resized_word.Goals as goal

pub loop-index-preserved : goal.loop-index-preserved
loop-index-preserved c = rw (c.in_ok-push.ensures.items, c.bit_at.ensures, add-one c.loop-index.index) (next _ _ _ _ (resized_next c.loop-index.index c.args.word.now) c.loop-index.invariant)

pub returns : goal.returns
returns c = c.loop-index.invariant ∙ ap (λ n. resized_ids n c.args.word.now) (omega (arith, c.loop-index-test.false, c.loop-index.auto.index-end))
