-- The sum is that of the bytes so far.
use Rattle.std.proofs.Common.{◌≡◌, take, ◌==◌}
use Rattle.abel_macros.proofs.Common.{count_by}
use Rattle.abel_macros.proofs.stretches.count.Given as goal

abbrev pub invariant-loop-next : goal.invariant-loop-next
invariant-loop-next l = l.count ≡ count_by (λ b. b == l.fn.byte) (take l.next-index l.stretch)
