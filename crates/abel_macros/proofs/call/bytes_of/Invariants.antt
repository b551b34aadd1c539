-- The bytes so far are those of the pieces so far.
use Rattle.std.proofs.Common.{◌≡◌, take}
use Rattle.abel_macros.proofs.Common.{joined}
use Rattle.abel_macros.proofs.call.bytes_of.Given as goal

abbrev pub invariant-loop-piece : goal.invariant-loop-piece
invariant-loop-piece l = l.bytes.items ≡ joined (take l.piece-index l.pieces)
