-- One piece more precedes the rest.
use Rattle.std.proofs.Common.{◌≡◌, ◌++◌, ◌∙◌, ap, List, ℕ, length, arith, length-append}
use Rattle.text_pieces.proofs.Common.{stacked}
use Rattle.text_pieces.proofs.Stacked.{stacked-push}
use Rattle.text_pieces.proofs.rest.Rest.put.Goals as goal

pub invariant_of-self-2 : goal.invariant_of-self-2
invariant_of-self-2 c =
    let e : stacked c.push.new.self.items ≡ c.self.inside.top ++ stacked c.self.inside.stack.items = ap stacked c.in_ok-push.ensures.items ∙ stacked-push c.self.inside.stack.items c.in_ok-clone.field-0 ∙ ap (λ (w : List ℕ). w ++ stacked c.self.inside.stack.items) c.in_ok-clone.ensures.cases in
    let v = c.self.invariant in
    let r = c.requires in
    let w = ap length c.self.view_is in
    (omega (arith, length-append c.args.piece (stacked c.push.new.self.items), ap length e, v.0), omega (arith, length-append c.args.piece (stacked c.push.new.self.items), ap length e, v.0, w))

pub returns-clause-ok : goal.returns-clause-ok
returns-clause-ok c =
    ap (λ (w : List ℕ). c.args.piece ++ w) (ap stacked c.in_ok-push.ensures.items ∙ stacked-push c.self.inside.stack.items c.in_ok-clone.field-0 ∙ ap (λ (w : List ℕ). w ++ stacked c.self.inside.stack.items) c.in_ok-clone.ensures.cases ∙ c.self.view_is)
