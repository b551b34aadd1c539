-- A piece more.
use Rattle.std.proofs.Common.{List, ℕ, ◌++◌, ◌∙◌, ap, arith}
use Rattle.text_pieces.proofs.Pieces.{joined_more}
use Rattle.text_pieces.proofs.piece.Piece.kept.Goals as goal

pub pieces-preserved : goal.pieces-preserved
pieces-preserved c =
    c.in_ok-add_to.ensures ∙ ap (λ (w : List ℕ). w ++ c.piece-item.result) c.pieces.invariant ∙ joined_more c.args.pieces.now c.piece-item.result _ c.pieces.piece-index (omega arith) c.piece-item.is
