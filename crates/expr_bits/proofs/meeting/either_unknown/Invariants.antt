-- So many positions are there.
use Rattle.std.proofs.Common.{◌≡◌, take}
use Rattle.expr_bits.proofs.Common.{either_unknown}
use Rattle.expr_bits.proofs.meeting.either_unknown.Given as goal

abbrev pub invariant-loop-index : goal.invariant-loop-index
invariant-loop-index l = l.flags.items ≡ either_unknown (take l.index l.left) (take l.index l.right)
