use Rattle.std.proofs.Common.{◌≡◌, ℕ, ◌<◌, true}
use Rattle.pld_order.proofs.Common.{is_on}
use Rattle.pld_order.proofs.ordering.all_done.Given as goal

abbrev pub invariant-loop-v : goal.invariant-loop-v
invariant-loop-v l = (w : ℕ) → w < l.v → is_on l.done w ≡ true
