-- One digit more, and all digits.
use Rattle.std.proofs.Common.{add-one, ap, arith, ◌∙◌}
use Rattle.expr_bits.proofs.Common.{digit_ids}
use Rattle.expr_bits.proofs.PositionWords.{next, digits_next, halved_next}
use Rattle.expr_bits.proofs.positions.digit_word.Goals as goal

pub loop-index-preserved : goal.loop-index-preserved
loop-index-preserved c =
    let i = c.loop-index.index in
    record {
      ids = rw (c.in_ok-push.ensures.items, c.constant.ensures, c.loop-index.invariant.rest, add-one i) (next _ _ _ _ (digits_next i c.args.number) c.loop-index.invariant.ids);
      rest = rw (c.loop-index.invariant.rest, add-one i) (halved_next i c.args.number);
    }

pub returns : goal.returns
returns c = c.loop-index.invariant.ids ∙ ap (λ n. digit_ids n c.args.number) (omega (arith, c.loop-index-test.false, c.loop-index.auto.index-end))
