-- The second byte, in this piece or at the front of the next.
use Rattle.std.proofs.Common.{ap, ◌∙◌, sym, arith, drop, ◌++◌}
use Rattle.text_pieces.proofs.Common.{ahead, stacked}
use Rattle.text_pieces.proofs.Stacked.{two_of, one_then, one_behind}
use Rattle.text_pieces.proofs.ahead.Ahead.peek_second.Goals as goal

pub returns-in-len2-up-clause-some : goal.returns-in-len2-up-clause-some
returns-in-len2-up-clause-some c =
    let p = two_of c.self.inside.place.front.now (stacked c.self.inside.place.below.now) (drop c.self.inside.passed (c.self.inside.top.now ++ stacked c.self.inside.stack.now)) (omega arith) c.self.invariant.0 in
    (p.0, p.1, ap ahead (sym c.self.view_is) ∙ p.2)

pub returns-in-len1-up-clause-some : goal.returns-in-len1-up-clause-some
returns-in-len1-up-clause-some c =
    let p =
    one_then c.self.inside.place.front.now (stacked c.self.inside.place.below.now) c.behind.result.front.now (stacked c.behind.result.below.now)
    (drop c.self.inside.passed (c.self.inside.top.now ++ stacked c.self.inside.stack.now)) (omega arith) c.self.invariant.0 (c.behind.ensures.text ∙ one_behind c.self.inside.place.front.now (stacked c.self.inside.place.below.now) (omega arith)) (omega arith) in
    (p.0, p.1, ap ahead (sym c.self.view_is) ∙ p.2)
