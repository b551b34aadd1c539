use Rattle.std.proofs.Common.{◌≡◌, ℕ, ◌<◌, true, get_or}
use Rattle.pin_matching.proofs.Common.{has}
use Rattle.pin_matching.proofs.wishes.one_outside.Given as goal

abbrev pub invariant-loop-pin : goal.invariant-loop-pin
invariant-loop-pin l = (k : ℕ) → k < l.pin-index → has l.pins (get_or l.list k 0) ≡ true
