-- A piece more, and the last one.
use Rattle.std.proofs.Common.{◌≡◌, ◌+◌, ◌++◌, ◌∙◌, ap, List, [], ◌∷◌, ℕ, length, take, sym, arith}
use Rattle.text_pieces.proofs.Common.{take-append-le, stacked, joined}
use Rattle.text_pieces.proofs.Pieces.{skipped, cut_off, lengths, joined-push}
use Rattle.text_pieces.proofs.rest.Rest.cut.Goals as goal

pub pieces-preserved : goal.pieces-preserved
pieces-preserved c =
    let last = c.in-Some.ensures.items ∙ ap (λ (p : List ℕ). c.pop.new.self.items ++ p ∷ []) (sym c.exchange.ensures) in
    let n : length c.pieces.self-inside.top + length (c.exchange.new.top ++ stacked c.pop.new.self.items) ≡ length (c.pieces.self-inside.top ++ stacked c.pieces.self-inside.stack.items)
    = lengths c.pieces.self-inside.top c.pieces.self-inside.stack.items c.pop.new.self.items c.exchange.new.top c.pieces.left (omega arith) last in
    let pushed = ap joined c.in_ok-push.ensures.items ∙ joined-push c.pieces.pieces.items c.in_ok-clone.field-0 ∙ ap (λ (w : List ℕ). joined c.pieces.pieces.items ++ w) c.in_ok-clone.ensures.cases in
    record {
      cut = rw (pushed, c.len-len.ensures) (cut_off c.pieces.self-inside.top c.pieces.self-inside.stack.items c.pop.new.self.items c.exchange.new.top c.pieces.left (omega arith) last (joined c.pieces.pieces.items) _ c.pieces.invariant.cut);
      behind = rw c.len-len.ensures (skipped c.pieces.self-inside.top c.pieces.self-inside.stack.items c.pop.new.self.items c.exchange.new.top c.pieces.left (omega arith) last _ c.pieces.invariant.behind);
      most = omega (arith, n);
      count = omega (arith, n);
      fits = omega (arith, n);
    }

pub returns-clause-cut : goal.returns-clause-cut
returns-clause-cut c =
    let text = c.pieces.self-inside.top ++ stacked c.pieces.self-inside.stack.items in
    let front : c.in_ok-part.field-0 ≡ take c.pieces.left text = c.in_ok-part.ensures ∙ sym (take-append-le c.pieces.left c.pieces.self-inside.top (stacked c.pieces.self-inside.stack.items) (omega arith)) in
    ap joined c.in_ok-push-2.ensures.items ∙ joined-push c.pieces.pieces.items c.in_ok-part.field-0 ∙ ap (λ (w : List ℕ). joined c.pieces.pieces.items ++ w) front ∙ c.pieces.invariant.cut
