use Rattle.std.proofs.Common.{◌≡◌, false, take}
use Rattle.pin_matching.proofs.Common.{has}
use Rattle.pin_matching.proofs.reaching.is_reached.Given as goal

abbrev pub invariant-loop-s : goal.invariant-loop-s
invariant-loop-s l = has (take l.s-index l.list) l.signal ≡ false
