-- A piece without its first bytes.
use Rattle.std.proofs.Common.{sym, arith}
use Rattle.text_pieces.proofs.Common.{home_bytes}
use Rattle.text_pieces.proofs.Told.{length_is, rest_is}
use Rattle.text_pieces.proofs.piece.Piece.skip.Goals as goal

pub overflow_add-self : goal.overflow_add-self
overflow_add-self c = omega (arith, c.requires, c.self.invariant.0, c.self.invariant.2, length_is (home_bytes c.self.inside.home) c.args.self.now c.self.inside.from c.self.inside.to c.self.view_is c.self.invariant.1)

pub returns : goal.returns
returns c = sym (rest_is (home_bytes c.self.inside.home) c.args.self.now c.self.inside.from c.self.inside.to c.args.count (sym c.self.view_is) c.self.invariant.0 c.self.invariant.1 (omega (arith, c.requires, length_is (home_bytes c.self.inside.home) c.args.self.now c.self.inside.from c.self.inside.to c.self.view_is c.self.invariant.1)))
