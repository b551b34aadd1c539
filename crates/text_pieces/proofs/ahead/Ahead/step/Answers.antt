-- One byte is passed.
use Rattle.std.proofs.Common.{ap, ◌∙◌, sym, arith, ◌++◌}
use Rattle.text_pieces.proofs.Common.{ahead, stacked}
use Rattle.text_pieces.proofs.Stacked.{passes}
use Rattle.text_pieces.proofs.ahead.Ahead.step.Goals as goal

pub returns-in-len1-up-clause-some : goal.returns-in-len1-up-clause-some
returns-in-len1-up-clause-some c =
    let p = passes c.self.inside.place.front.now (stacked c.self.inside.place.below.now) (c.self.inside.top.now ++ stacked c.self.inside.stack.now) c.self.inside.passed (omega arith) c.self.invariant.0 in
    ap ahead (sym c.self.view_is) ∙ p.byte
