-- What is left to pass lies after the first piece.
use Rattle.std.proofs.Common.{◌≡◌, ◌+◌, ◌++◌, ◌∙◌, ◌∷◌, [], List, ℕ, ap, sym, length, arith}
use Rattle.text_pieces.proofs.Common.{stacked}
use Rattle.text_pieces.proofs.Pieces.{skipped, lengths}
use Rattle.text_pieces.proofs.rest.Rest.skip.Goals as goal

pub pieces-preserved : goal.pieces-preserved
pieces-preserved c =
    let last = c.in-Some.ensures.items ∙ ap (λ (p : List ℕ). c.pop.new.self.items ++ p ∷ []) (sym c.exchange.ensures) in
    let n : length c.pieces.self-inside.top + length (c.exchange.new.top ++ stacked c.pop.new.self.items) ≡ length (c.pieces.self-inside.top ++ stacked c.pieces.self-inside.stack.items)
    = lengths c.pieces.self-inside.top c.pieces.self-inside.stack.items c.pop.new.self.items c.exchange.new.top c.pieces.left (omega arith) last in
    record {
      behind = rw c.len-len.ensures (skipped c.pieces.self-inside.top c.pieces.self-inside.stack.items c.pop.new.self.items c.exchange.new.top c.pieces.left (omega arith) last _ c.pieces.invariant.behind);
      most = omega (arith, n);
      count = omega (arith, n);
      fits = omega (arith, n);
    }
