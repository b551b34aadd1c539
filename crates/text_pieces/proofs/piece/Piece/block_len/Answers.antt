-- Its end in the text is within the piece.
use Rattle.std.proofs.Common.{sym, arith}
use Rattle.text_pieces.proofs.Common.{home_bytes}
use Rattle.text_pieces.proofs.Told.{length_is, closes_within}
use Rattle.text_pieces.proofs.piece.Piece.block_len.Goals as goal

pub overflow_add-place : goal.overflow_add-place
overflow_add-place c = omega (arith, c.requires, c.self.invariant.0, c.self.invariant.2, length_is (home_bytes c.self.inside.home) c.args.self.now c.self.inside.from c.self.inside.to c.self.view_is c.self.invariant.1)

pub returns-clause-closes : goal.returns-clause-closes
returns-clause-closes c =
    closes_within (home_bytes c.self.inside.home) c.args.self.now c.self.inside.from c.self.inside.to c.args.at (sym c.self.view_is) c.self.invariant.0 c.self.invariant.1 (omega (arith, c.requires, length_is (home_bytes c.self.inside.home) c.args.self.now c.self.inside.from c.self.inside.to c.self.view_is c.self.invariant.1)) c.in_ok-end.end c.in_ok-end.ensures (omega arith) (omega arith)
