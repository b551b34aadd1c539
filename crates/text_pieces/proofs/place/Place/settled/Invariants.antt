-- Pieces that hold nothing are passed: the text stays.
use Rattle.std.proofs.Common.{◌≡◌, length}
use Rattle.text_pieces.proofs.Common.{text_at, IsPlace}
use Rattle.text_pieces.proofs.place.Place.settled.Given as goal

abbrev pub invariant-pieces : goal.invariant-pieces
invariant-pieces l = record { text : text_at l.place ≡ text_at l.fn.self; is : IsPlace l.place }

abbrev pub decreases-pieces : goal.decreases-pieces
decreases-pieces l = length l.place.below.now
