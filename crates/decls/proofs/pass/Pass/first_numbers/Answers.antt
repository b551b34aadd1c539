-- The numbers that are written out are the first of all.
use Rattle.std.proofs.Common.{subst, sym}
use Rattle.decls.proofs.Common.{numbers_of, HasNumbers}
use Rattle.decls.proofs.FirstNumbers.{has_numbers}
use Rattle.decls.proofs.pass.Pass.first_numbers.Goals as goal

pub returns : goal.returns
returns c =
    let skips = c.args.self.now.skips in
    let spans = c.args.numbers.now in
    let room = c.room_for-room in
    subst (λ l. HasNumbers skips room.result l (numbers_of c.args.count spans)) (sym c.in_ok-list.ensures)
    (has_numbers skips room.result c.args.count spans room.ensures.within room.ensures.whole)
