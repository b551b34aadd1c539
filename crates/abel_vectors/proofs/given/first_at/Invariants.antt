-- The pin isn't among those so far.
use Rattle.std.proofs.Common.{◌≡◌, drop}
use Rattle.abel_vectors.proofs.Common.{found_at}
use Rattle.abel_vectors.proofs.given.first_at.Given as goal

abbrev pub invariant-loop-given : goal.invariant-loop-given
invariant-loop-given l = found_at l.list l.pin ≡ found_at (drop l.given-index l.list) l.pin
