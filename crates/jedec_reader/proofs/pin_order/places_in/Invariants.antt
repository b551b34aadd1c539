use Rattle.std.proofs.Common.{◌≡◌, ℕ, ◌+◌, ◌<◌, length, get_or}
use Rattle.jedec_reader.proofs.Common.{place_of}
use Rattle.jedec_reader.proofs.pin_order.places_in.Given as goal

abbrev pub invariant-loop-pin : goal.invariant-loop-pin
invariant-loop-pin l = record {
  pins : length l.places ≡ 24;
  below : (k : ℕ) → k < l.pin → get_or l.places k 0 ≡ place_of l.order (k + 1);
}
