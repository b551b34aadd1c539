-- What is known of the piece is known of the text that it begins.
use Rattle.std.proofs.Common.{ap, ◌∙◌}
use Rattle.text_pieces.proofs.Common.{ahead, stacked}
use Rattle.text_pieces.proofs.Told.{ends_known}
use Rattle.text_pieces.proofs.ahead.Ahead.argument_len.Goals as goal

pub returns-clause-ends : goal.returns-clause-ends
returns-clause-ends c =
    ends_known c.self.inside.place.front.now (stacked c.self.inside.place.below.now) (ahead c.args.self.now) c.argument_len.result (c.self.invariant.0 ∙ ap ahead c.self.view_is) c.argument_len.ensures.ends c.argument_len.ensures.within
