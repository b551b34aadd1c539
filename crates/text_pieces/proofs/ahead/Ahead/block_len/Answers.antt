-- What is known of the piece is known of the text that it begins.
use Rattle.std.proofs.Common.{ap, ◌∙◌}
use Rattle.text_pieces.proofs.Common.{ahead, stacked}
use Rattle.text_pieces.proofs.Told.{closes_known}
use Rattle.text_pieces.proofs.ahead.Ahead.block_len.Goals as goal

pub returns-clause-closes : goal.returns-clause-closes
returns-clause-closes c =
    closes_known c.self.inside.place.front.now (stacked c.self.inside.place.below.now) (ahead c.args.self.now) c.block_len.result (c.self.invariant.0 ∙ ap ahead c.self.view_is) c.block_len.ensures.closes c.block_len.ensures.within
