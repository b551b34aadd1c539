-- The pieces so far have the bytes that are not left.
use Rattle.std.proofs.Common.{◌≡◌, ◌+◌, length, take}
use Rattle.abel_macros.proofs.Common.{joined}
use Rattle.abel_macros.proofs.wholes.length_within.Given as goal

abbrev pub invariant-loop-piece : goal.invariant-loop-piece
invariant-loop-piece l = length (joined (take l.piece-index l.pieces)) + l.left ≡ l.fn.most
