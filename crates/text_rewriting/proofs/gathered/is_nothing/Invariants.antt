-- The pieces that are left have all the bytes.
use Rattle.std.proofs.Common.{◌≡◌, drop}
use Rattle.text_rewriting.proofs.Common.{joined}
use Rattle.text_rewriting.proofs.gathered.is_nothing.Given as goal

abbrev pub invariant-loop-piece : goal.invariant-loop-piece
invariant-loop-piece l = joined (drop l.piece-index l.pieces) ≡ joined l.pieces
