use Rattle.std.proofs.Common.{◌≡◌, ℕ, ◌<◌, false, [], get_or}
use Rattle.pld_order.proofs.Common.{is_on, AreApart}
use Rattle.pld_order.proofs.leading.next_leading.Given as goal

abbrev pub invariant-loop-v : goal.invariant-loop-v
invariant-loop-v l = (w : ℕ) → w < l.v → is_on l.leading w ≡ false → (is_on l.ends w ≡ false) × AreApart (get_or l.reads w []) l.leading
