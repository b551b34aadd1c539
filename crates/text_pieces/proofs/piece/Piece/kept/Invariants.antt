-- The bytes of the pieces that were passed.
use Rattle.std.proofs.Common.{◌≡◌, take}
use Rattle.text_pieces.proofs.Common.{joined}
use Rattle.text_pieces.proofs.piece.Piece.kept.Given as goal

abbrev pub invariant-pieces : goal.invariant-pieces
invariant-pieces l = l.bytes.items ≡ joined (take l.piece-index l.fn.pieces)
