-- Two parts, and then both of them.
use Rattle.std.proofs.Common.{Ok, refl}
use Rattle.expr_bits.proofs.Common.{arena, formula_at, make_and, make_or, Makes, ShowsOne}
use Rattle.expr_bits.proofs.Making.{kept, adds_makes, then_or_and}
use Rattle.expr_bits.proofs.pieces.next_carry.Goals as goal

pub returns : goal.returns
returns c =
    let old = c.args.exprs.now in
    let mid = c.add.new.self in
    let x = formula_at (arena old) c.args.x in
    let y = formula_at (arena old) c.args.y in
    let one : Makes ShowsOne old mid (Ok c.in_ok-both.both) (make_and x y) = adds_makes old mid (Ok c.in_ok-both.both) (make_and x y) c.in_ok-both.ensures.adds in
    let a = kept (arena old) (arena mid) (make_and x y).nodes c.args.x one.grew c.requires.x in
    let b = kept (arena old) (arena mid) (make_and x y).nodes c.args.y one.grew c.requires.y in
    let two : Makes ShowsOne mid c.add-2.new.self (Ok c.in_ok-either.either) (make_or x y) = adds_makes mid c.add-2.new.self (Ok c.in_ok-either.either) (make_or x y) (rw (a, b) at c.in_ok-either.ensures.adds) in
    then_or_and old mid c.add-2.new.self c.or_and.new.exprs c.in_ok-both.both c.in_ok-either.either c.args.carry c.or_and.result (make_and x y) (make_or x y) (formula_at (arena old) c.args.carry) one two (c.requires.carry, refl) c.or_and.ensures
