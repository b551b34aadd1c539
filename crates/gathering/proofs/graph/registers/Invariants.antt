use Rattle.std.proofs.Common.{◌≡◌, ℕ, ◌&&◌, nat_lt}
use Rattle.gathering.proofs.Common.{is_on, is_stored_in}
use Rattle.gathering.proofs.graph.registers.Given as goal

abbrev pub invariant-loop-v : goal.invariant-loop-v
invariant-loop-v l = (w : ℕ) → is_on l.set w ≡ (nat_lt w l.v && is_stored_in l.links w)
