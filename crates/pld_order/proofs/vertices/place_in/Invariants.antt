use Rattle.std.proofs.Common.{◌≡◌, ℕ, ◌<◌, false, get_or}
use Rattle.pld_order.proofs.Common.{is_on}
use Rattle.pld_order.proofs.vertices.place_in.Given as goal

abbrev pub invariant-loop-i : goal.invariant-loop-i
invariant-loop-i l = (k : ℕ) → k < l.i → is_on l.set (get_or l.list k 0) ≡ false
