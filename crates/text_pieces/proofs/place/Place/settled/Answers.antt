-- A piece that holds nothing is passed.
use Rattle.std.proofs.Common.{◌-◌, ◌∙◌, length, take}
use Rattle.text_pieces.proofs.Common.{stacked}
use Rattle.text_pieces.proofs.Pieces.{popped, split_last}
use Rattle.text_pieces.proofs.Stacked.{emptied}
use Rattle.text_pieces.proofs.place.Place.settled.Goals as goal

pub pieces-preserved : goal.pieces-preserved
pieces-preserved c =
    let below = c.pieces.place.below.now in
    let more = take (length below - 1) below in
    let passed = c.is_passed.ensures.yes c.pieces-test.true in
    record {
      text = c.new-place.ensures.text ∙ popped below more c.last-item.result (split_last below c.last-item.result _ passed.1 c.last-item.is) ∙ emptied c.pieces.place.front.now (stacked below) _ passed.0 c.pieces.invariant.text;
      is = c.new-place.ensures.is;
    }
