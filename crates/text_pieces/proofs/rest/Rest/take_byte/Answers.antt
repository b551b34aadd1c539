-- The first byte, from the first piece that holds one.
use Rattle.std.proofs.Common.{◌∙◌, ◌++◌, ◌∷◌, [], List, ℕ, ap, sym, length, arith}
use Rattle.text_pieces.proofs.Common.{stacked}
use Rattle.text_pieces.proofs.Stacked.{emptied}
use Rattle.text_pieces.proofs.Pieces.{popped}
use Rattle.text_pieces.proofs.rest.Rest.take_byte.Goals as goal

pub pieces-preserved : goal.pieces-preserved
pieces-preserved c =
    let last = c.in-Some-pop.ensures.items ∙ ap (λ (p : List ℕ). c.pop.new.self.items ++ p ∷ []) (sym c.exchange.ensures) in
    record {
      text =
          popped c.pieces.self-inside.stack.items c.pop.new.self.items c.exchange.new.top last
          ∙ emptied c.pieces.self-inside.top (stacked c.pieces.self-inside.stack.items) _ (omega (arith, ap length c.in_default.ensures.none)) c.pieces.invariant.text;
      count = c.pieces.invariant.count;
      fits = c.pieces.invariant.fits;
    }
