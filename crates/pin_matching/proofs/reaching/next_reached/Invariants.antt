use Rattle.std.proofs.Common.{◌≡◌, ℕ, ◌<◌, false, get_or}
use Rattle.pin_matching.proofs.Common.{has, NoneFits, narrowed}
use Rattle.pin_matching.proofs.reaching.next_reached.Given as goal

abbrev pub invariant-loop-t : goal.invariant-loop-t
invariant-loop-t l = (t : ℕ) → t < l.t → has l.reached t ≡ false → NoneFits (narrowed l.wishes l.fixed) l.reached (get_or l.pins t 0)
