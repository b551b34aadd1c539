use Rattle.std.proofs.Common.{◌≡◌, get_or, sym, refl, arith, None, true, is_none}
use Rattle.jedec_reader.proofs.Positions.{position_found, position_none}
use Rattle.jedec_reader.proofs.fuse_levels.first_unlisted.Goals as goal

pub returns-then-is_none : goal.returns-then-is_none
returns-then-is_none c =
    let here : is_none (get_or c.args.table.now c.loop-fuse.fuse None) ≡ true = rw (c.is_none.ensures, c.if-is_none.true) refl in
    sym (position_found is_none c.args.table.now c.loop-fuse.fuse None c.loop-fuse-test.true here c.loop-fuse.invariant)

pub returns : goal.returns
returns c = sym (position_none is_none c.args.table.now None (λ k low. c.loop-fuse.invariant k (omega (arith, c.loop-fuse-test.false))))
