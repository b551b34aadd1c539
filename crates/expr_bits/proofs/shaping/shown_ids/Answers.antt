-- One position more, and all of them.
use Rattle.std.proofs.Common.{add-one, ◌≤◌, false, sym, ap₂, ◌∙◌, subst}
use Rattle.expr_bits.proofs.Common.{take_all, shown_ids}
use Rattle.expr_bits.proofs.PositionWords.{next}
use Rattle.expr_bits.proofs.Shaped.{places_next}
use Rattle.expr_bits.proofs.shaping.shown_ids.Goals as goal

pub loop-index-preserved : goal.loop-index-preserved
loop-index-preserved c =
    rw (c.in_ok-push.ensures.items, c.place_of.ensures, add-one c.loop-index.index)
    (next _ _ _ _ (places_next c.args.word.now c.args.unknown.now c.loop-index.index (record { 0 = 0 }) false c.loop-index-test.true c.requires) c.loop-index.invariant)

pub returns : goal.returns
returns c =
    let end = c.loop-index-test.false in
    c.loop-index.invariant ∙ ap₂ shown_ids (take_all c.loop-index.index c.args.word.now end) (take_all c.loop-index.index c.args.unknown.now (subst (λ n. n ≤ c.loop-index.index) (sym c.requires) end))
