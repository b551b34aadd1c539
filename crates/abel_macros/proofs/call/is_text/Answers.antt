-- A piece more.
use Rattle.std.proofs.Common.{◌++◌, List, ℕ, ap, ◌∙◌, arith}
use Rattle.abel_macros.proofs.Calls.{text_next, stripped}
use Rattle.abel_macros.proofs.call.is_text.Goals as goal

pub loop-piece-preserved : goal.loop-piece-preserved
loop-piece-preserved c =
    text_next c.args.pieces.now c.loop-piece.piece-index c.loop-piece.left.now c.args.bytes.now _ c.in-Some.more.now (omega arith)
    (stripped c.loop-piece.left.now c.bytes.result.now c.in-Some.more.now c.in-Some.ensures.cases.0 c.in-Some.ensures.cases.1 ∙ ap (λ (w : List ℕ). w ++ c.in-Some.more.now) (c.bytes.ensures ∙ c.piece-item.is)) c.loop-piece.invariant
