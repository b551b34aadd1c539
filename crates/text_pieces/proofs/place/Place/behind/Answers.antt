-- What is left to pass lies after this piece.
use Rattle.std.proofs.Common.{◌-◌, ◌∙◌, length, take, drop, ap, arith}
use Rattle.text_pieces.proofs.Pieces.{lengths, skipped, split_last}
use Rattle.text_pieces.proofs.place.Place.behind.Goals as goal

pub pieces-preserved : goal.pieces-preserved
pieces-preserved c =
    let below = c.pieces.place.below.now in
    let more = take (length below - 1) below in
    let front = c.pieces.place.front.now in
    let split = split_last below c.last-item.result _ (omega arith) c.last-item.is in
    record {
      behind = ap (drop (c.pieces.left - length front)) c.new-place.ensures.text ∙ skipped front below more c.last-item.result c.pieces.left (omega arith) split _ c.pieces.invariant.behind;
      most = omega (arith, c.pieces.invariant.most, ap length c.new-place.ensures.text, lengths front below more c.last-item.result c.pieces.left (omega arith) split);
      is = c.new-place.ensures.is;
    }
