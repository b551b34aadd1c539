use Rattle.std.proofs.Common.{◌≡◌, ℕ, ◌<◌, false, get_or, ◌==◌}
use Rattle.jedec_reader.proofs.pin_order.place_of.Given as goal

abbrev pub invariant-loop-place : goal.invariant-loop-place
invariant-loop-place l = (k : ℕ) → k < l.place → (get_or l.order k 0 == l.pin) ≡ false
