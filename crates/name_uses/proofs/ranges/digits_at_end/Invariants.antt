-- The digits at the end of what was read.
use Rattle.std.proofs.Common.{◌≡◌, ◌≤◌, length, take}
use Rattle.name_uses.proofs.Common.{last_digits}
use Rattle.name_uses.proofs.ranges.digits_at_end.Given as goal

abbrev pub invariant-loop-c : goal.invariant-loop-c
invariant-loop-c l = (l.count ≡ length (last_digits (take l.c-index l.name))) × (l.count ≤ l.c-index)
