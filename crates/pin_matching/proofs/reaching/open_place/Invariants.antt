use Rattle.std.proofs.Common.{◌≡◌, ℕ, ◌<◌, true, get_or}
use Rattle.pin_matching.proofs.Common.{has, fits, narrowed}
use Rattle.pin_matching.proofs.reaching.open_place.Given as goal

abbrev pub invariant-loop-i : goal.invariant-loop-i
invariant-loop-i l = (k : ℕ) → k < l.i → (p : ℕ) → fits (narrowed l.wishes l.fixed) (get_or l.reached k 0) p ≡ true → has l.pins p ≡ true
