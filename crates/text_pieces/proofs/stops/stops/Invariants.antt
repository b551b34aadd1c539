-- The next stop from a place on, and what the table says of those after it.
use Rattle.std.proofs.Common.{◌≤◌, length}
use Rattle.text_pieces.proofs.Common.{FreeOf, Tells, is_stop}
use Rattle.text_pieces.proofs.stops.stops.Given as goal

abbrev pub invariant-bytes : goal.invariant-bytes
invariant-bytes l = record { stops : Tells (FreeOf (is_stop l.stop) l.text) 0 l.stops.items; next : FreeOf (is_stop l.stop) l.text l.at l.next; more : l.at ≤ l.next; within : l.next ≤ length l.text }

abbrev pub decreases-bytes : goal.decreases-bytes
decreases-bytes l = l.at
