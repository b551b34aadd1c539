-- The pairs so far are there.
use Rattle.std.proofs.Common.{◌≡◌, ◌<◌, ℕ, get_or, length}
use Rattle.gathering.proofs.Common.{no_pair, pair_of_pin}
use Rattle.gathering.proofs.pairs.pairs_of_pins.Given as goal

abbrev pub invariant-loop-pin : goal.invariant-loop-pin
invariant-loop-pin g l = record {
  long : length l.pairs ≡ 25;
  pairs : (n : ℕ) → n < l.pin → get_or l.pairs n no_pair ≡ pair_of_pin g.D.Device.table n;
}
