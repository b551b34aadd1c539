-- The last of the pieces precedes the rest, and the others before it.
use Rattle.std.proofs.Common.{◌-◌, ◌++◌, ◌∙◌, ap, List, ℕ, sym, length, take, arith, length-append, length-take, append_assoc}
use Rattle.text_pieces.proofs.Common.{joined}
use Rattle.text_pieces.proofs.Pieces.{joined_last}
use Rattle.text_pieces.proofs.rest.Rest.put_all.Goals as goal

pub put-requires : goal.put-requires
put-requires c =
    let ps = c.pieces.left.now in
    let last = c.last-item.result in
    let split = joined_last ps last _ c.in-len1-up.len_at_least c.last-item.is in
    omega (arith, ap length split, length-append (joined (take (length ps - 1) ps)) last, ap length c.in_ok-clone.ensures.cases, c.pieces.invariant.fits)

pub pieces-preserved : goal.pieces-preserved
pieces-preserved c =
    let ps = c.pieces.left.now in
    let more = joined (take (length ps - 1) ps) in
    let last = c.last-item.result in
    let split = joined_last ps last _ c.in-len1-up.len_at_least c.last-item.is in
    let put = c.in_ok-put.ensures.ok ∙ ap (λ (w : List ℕ). w ++ c.pieces.self) c.in_ok-clone.ensures.cases in
    record {
      text = ap (λ (w : List ℕ). more ++ w) put ∙ sym (append_assoc more last c.pieces.self) ∙ ap (λ (w : List ℕ). w ++ c.pieces.self) split ∙ c.pieces.invariant.text;
      fits = omega (arith, ap length split, length-append more last, ap length put, length-append last c.pieces.self, c.pieces.invariant.fits);
      fewer = omega (arith, length-take (length ps - 1) ps, c.pieces.invariant.fewer);
    }
