-- Bytes of a piece, from one of them on.
use Rattle.std.proofs.Common.{sym, arith}
use Rattle.text_pieces.proofs.Common.{home_bytes}
use Rattle.text_pieces.proofs.Told.{length_is, part_is}
use Rattle.text_pieces.proofs.piece.Piece.part.Goals as goal

pub overflow_add-from : goal.overflow_add-from
overflow_add-from c = omega (arith, c.requires, c.self.invariant.0, c.self.invariant.2, length_is (home_bytes c.self.inside.home) c.args.self.now c.self.inside.from c.self.inside.to c.self.view_is c.self.invariant.1)

pub overflow_add-result : goal.overflow_add-result
overflow_add-result c = omega (arith, c.requires, c.self.invariant.0, c.self.invariant.2, length_is (home_bytes c.self.inside.home) c.args.self.now c.self.inside.from c.self.inside.to c.self.view_is c.self.invariant.1)

pub returns : goal.returns
returns c =
    let len = length_is (home_bytes c.self.inside.home) c.args.self.now c.self.inside.from c.self.inside.to c.self.view_is c.self.invariant.1 in
    part_is (home_bytes c.self.inside.home) c.args.self.now c.self.inside.from c.self.inside.to c.args.from (sym c.self.view_is) c.self.invariant.0 c.self.invariant.1 (omega (arith, c.requires, len)) (home_bytes c.in_ok-shared.field-0) c.args.count c.in_ok-shared.ensures (omega (arith, c.requires, len))
