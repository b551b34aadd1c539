-- No stop is up to there in the text, nor in the piece.
use Rattle.std.proofs.Common.{sym, arith}
use Rattle.text_pieces.proofs.Common.{home_bytes, is_stop}
use Rattle.text_pieces.proofs.Told.{length_is, free_within}
use Rattle.text_pieces.proofs.piece.Piece.free_len.Goals as goal

pub overflow_add-place : goal.overflow_add-place
overflow_add-place c = omega (arith, c.requires, c.self.invariant.0, c.self.invariant.2, length_is (home_bytes c.self.inside.home) c.args.self.now c.self.inside.from c.self.inside.to c.self.view_is c.self.invariant.1)

pub returns : goal.returns
returns c = free_within (home_bytes c.self.inside.home) c.args.self.now c.self.inside.from c.self.inside.to c.args.at (sym c.self.view_is) c.self.invariant.0 c.self.invariant.1 (omega (arith, c.requires, length_is (home_bytes c.self.inside.home) c.args.self.now c.self.inside.from c.self.inside.to c.self.view_is c.self.invariant.1)) (is_stop c.args.stop) c.stop.result c.saturating_sub.result c.stop.ensures (omega arith) (omega arith)
