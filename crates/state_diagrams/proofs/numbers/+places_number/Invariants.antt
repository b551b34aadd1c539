-- Fewer positions are left.
use Rattle.std.proofs.Common.{length}
use Rattle.state_diagrams.proofs.numbers.+places_number.Given as goal

abbrev pub decreases-places_number : goal.decreases-places_number
decreases-places_number l = length l.places.now
