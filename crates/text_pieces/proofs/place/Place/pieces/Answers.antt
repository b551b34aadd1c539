-- A piece more, and the last one.
use Rattle.std.proofs.Common.{◌≡◌, ◌-◌, ◌++◌, ◌∙◌, ap, List, ℕ, length, take, sym, arith}
use Rattle.text_pieces.proofs.Common.{take-append-le, at_of, text_at, stacked, joined}
use Rattle.text_pieces.proofs.Pieces.{cut_off, lengths, joined-push, part_front, whole_front, split_last}
use Rattle.text_pieces.proofs.place.Place.pieces.Goals as goal

pub pieces-preserved : goal.pieces-preserved
pieces-preserved c =
    let place = c.pieces.place in
    let below = place.below.now in
    let more = take (length below - 1) below in
    let front = place.front.now in
    let left = c.pieces.left - length front in
    let split = split_last below c.last-item.result _ (omega arith) c.last-item.is in
    let part = whole_front place.here.now front c.in_ok-part.field-0 (at_of place) c.at.result c.pieces.invariant.is.0 c.at.ensures c.in_ok-part.ensures in
    let pushed : joined c.push.new.self.items ≡ joined c.pieces.pieces.items ++ front
    = ap joined c.in_ok-push.ensures.items ∙ joined-push c.pieces.pieces.items c.in_ok-part.field-0 ∙ ap (λ (w : List ℕ). joined c.pieces.pieces.items ++ w) part in
    record {
      cut =
          ap (λ (w : List ℕ). joined c.push.new.self.items ++ take left w) c.new-place.ensures.text ∙ ap (λ (w : List ℕ). w ++ take left (c.last-item.result ++ stacked more)) pushed
          ∙ cut_off front below more c.last-item.result c.pieces.left (omega arith) split (joined c.pieces.pieces.items) _ c.pieces.invariant.cut;
      most = omega (arith, c.pieces.invariant.most, ap length c.new-place.ensures.text, lengths front below more c.last-item.result c.pieces.left (omega arith) split);
      is = c.new-place.ensures.is;
    }

pub returns : goal.returns
returns c =
    let place = c.pieces.place in
    let front = place.front.now in
    let part = part_front place.here.now front c.in_ok-part-2.field-0 (at_of place) c.at-2.result c.pieces.left c.pieces.invariant.is.0 c.at-2.ensures c.in_ok-part-2.ensures in
    let begins : take c.pieces.left front ≡ take c.pieces.left (text_at place) = sym (take-append-le c.pieces.left front (stacked place.below.now) (omega arith)) in
    ap joined c.in_ok-push-2.ensures.items ∙ joined-push c.pieces.pieces.items c.in_ok-part-2.field-0 ∙ ap (λ (w : List ℕ). joined c.pieces.pieces.items ++ w) (part ∙ begins) ∙ c.pieces.invariant.cut
