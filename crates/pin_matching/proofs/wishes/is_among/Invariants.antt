use Rattle.std.proofs.Common.{◌≡◌, false, take}
use Rattle.pin_matching.proofs.Common.{has}
use Rattle.pin_matching.proofs.wishes.is_among.Given as goal

abbrev pub invariant-loop-x : goal.invariant-loop-x
invariant-loop-x l = has (take l.x-index l.list) l.number ≡ false
