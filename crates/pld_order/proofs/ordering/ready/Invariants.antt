use Rattle.std.proofs.Common.{◌≡◌, ℕ, ◌<◌, false, [], get_or}
use Rattle.pld_order.proofs.Common.{is_on, IsWithin}
use Rattle.pld_order.proofs.ordering.ready.Given as goal

abbrev pub invariant-loop-v : goal.invariant-loop-v
invariant-loop-v l = (w : ℕ) → w < l.v → is_on l.done w ≡ false → IsWithin (get_or l.reads w []) l.done → ⊥
