-- The pieces taken, with what is left of the front, are the front.
use Rattle.std.proofs.Common.{◌≡◌, ◌≤◌, ◌++◌, length, take}
use Rattle.text_pieces.proofs.Common.{text_at, IsPlace, joined}
use Rattle.text_pieces.proofs.place.Place.pieces.Given as goal

abbrev pub invariant-pieces : goal.invariant-pieces
invariant-pieces l =
    record {
      cut : joined l.pieces.items ++ take l.left (text_at l.place) ≡ take l.fn.count (text_at l.fn.self);
      most : l.left ≤ length (text_at l.place);
      is : IsPlace l.place;
    }

abbrev pub decreases-pieces : goal.decreases-pieces
decreases-pieces l = length l.place.below.now
