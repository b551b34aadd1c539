-- The bytes that are left to pass lead to the same end as all.
use Rattle.std.proofs.Common.{◌≡◌, ◌≤◌, length, drop}
use Rattle.text_pieces.proofs.Common.{text_at, IsPlace}
use Rattle.text_pieces.proofs.place.Place.behind.Given as goal

abbrev pub invariant-pieces : goal.invariant-pieces
invariant-pieces l =
    record { behind : drop l.left (text_at l.place) ≡ drop l.fn.count (text_at l.fn.self); most : l.left ≤ length (text_at l.place); is : IsPlace l.place }

abbrev pub decreases-pieces : goal.decreases-pieces
decreases-pieces l = length l.place.below.now
