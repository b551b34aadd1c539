use Rattle.std.proofs.Common.{◌≡◌, ℕ, ◌&&◌, nat_le, nat_lt}
use Rattle.pld_order.proofs.Common.{is_on}
use Rattle.pld_order.proofs.ordering.no_vertices.Given as goal

abbrev pub invariant-loop-v : goal.invariant-loop-v
invariant-loop-v l = (w : ℕ) → is_on l.others w ≡ (nat_le l.count w && nat_lt w l.v)
