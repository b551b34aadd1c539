-- The bit, and then the carry.
use Rattle.std.proofs.Common.{Bool, Ok, refl, sym, subst}
use Rattle.expr_bits.proofs.Common.{arena, formula_at, free, ◌>>=◌, sum_bit, next_carry, sum_step, Makes, ShowsOne, ShowsTwo}
use Rattle.expr_bits.proofs.Making.{kept, one_kept, then_all, nothing_made}
use Rattle.expr_bits.proofs.steps.step_by.Goals as goal

pub returns-in_ok-next-in-Sum : goal.returns-in_ok-next-in-Sum
returns-in_ok-next-in-Sum c =
    let fs = arena c.args.exprs.now in
    let mid = arena c.sum_bit.new.exprs in
    let last = arena c.next_carry.new.exprs in
    let x = formula_at fs c.args.column.x in
    let y = formula_at fs c.args.column.y in
    let d = formula_at fs c.args.column.carry in
    let one = c.in_ok-bit-in-Sum.ensures in
    let a = kept fs mid (sum_bit x y d).nodes c.args.column.x one.grew c.requires.x in
    let b = kept fs mid (sum_bit x y d).nodes c.args.column.y one.grew c.requires.y in
    let e = kept fs mid (sum_bit x y d).nodes c.args.column.carry one.grew c.requires.carry in
    let two : Makes ShowsOne c.sum_bit.new.exprs c.next_carry.new.exprs (Ok c.in_ok-next-in-Sum.next) (next_carry x y d) = rw (a, b, e) at c.in_ok-next-in-Sum.ensures in
    let bit = one_kept mid last (next_carry x y d).nodes c.in_ok-bit-in-Sum.bit (sum_bit x y d).what two.grew one.shows in
    let three : Makes ShowsTwo c.next_carry.new.exprs c.next_carry.new.exprs (Ok (c.in_ok-bit-in-Sum.bit, c.in_ok-next-in-Sum.next)) (free ((sum_bit x y d).what, (next_carry x y d).what)) = nothing_made ShowsTwo c.next_carry.new.exprs (c.in_ok-bit-in-Sum.bit, c.in_ok-next-in-Sum.next) ((sum_bit x y d).what, (next_carry x y d).what) (bit, two.shows) in
    rw c.in-Sum.is
    (subst (λ (z : Bool). Makes ShowsTwo c.args.exprs.now c.next_carry.new.exprs (Ok (c.in_ok-bit-in-Sum.bit, c.in_ok-next-in-Sum.next)) (sum_step z x y d)) (sym c.if-last.false)
    (then_all ShowsOne ShowsTwo c.args.exprs.now c.sum_bit.new.exprs c.next_carry.new.exprs c.in_ok-bit-in-Sum.bit (Ok (c.in_ok-bit-in-Sum.bit, c.in_ok-next-in-Sum.next)) (sum_bit x y d) (next_carry x y d >>= λ n. free ((sum_bit x y d).what, n)) _ one
    (then_all ShowsOne ShowsTwo c.sum_bit.new.exprs c.next_carry.new.exprs c.next_carry.new.exprs c.in_ok-next-in-Sum.next (Ok (c.in_ok-bit-in-Sum.bit, c.in_ok-next-in-Sum.next)) (next_carry x y d) (free ((sum_bit x y d).what, (next_carry x y d).what)) _ two three refl refl)
    refl refl))
