-- A piece more.
use Rattle.std.proofs.Common.{◌++◌, List, ℕ, ap, ◌∙◌, arith}
use Rattle.abel_macros.proofs.Calls.{bytes_next}
use Rattle.abel_macros.proofs.call.bytes_of.Goals as goal

pub loop-piece-preserved : goal.loop-piece-preserved
loop-piece-preserved c =
    bytes_next c.args.pieces.now c.loop-piece.piece-index _ c.loop-piece.bytes.items c.extend_from_slice.new.self.items (omega arith) c.loop-piece.invariant
    (c.in_ok-extend_from_slice.ensures.items ∙ ap (λ (w : List ℕ). c.loop-piece.bytes.items ++ w) (c.bytes.ensures ∙ c.piece-item.is))
