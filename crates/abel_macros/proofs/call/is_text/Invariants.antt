-- The pieces so far and what is left are all bytes.
use Rattle.std.proofs.Common.{◌≡◌, ◌++◌, take}
use Rattle.abel_macros.proofs.Common.{joined}
use Rattle.abel_macros.proofs.call.is_text.Given as goal

abbrev pub invariant-loop-piece : goal.invariant-loop-piece
invariant-loop-piece l = joined (take l.piece-index l.pieces) ++ l.left ≡ l.fn.bytes
