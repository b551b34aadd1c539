-- Two parts, and then both of them.
use Rattle.std.proofs.Common.{◌≡◌, Ok, refl, arith, subst}
use Rattle.expr_bits.proofs.Common.{arena, formula_at, ◌>>=◌, Made, Formula, less_bit, Makes, ShowsOne, under_of, upto_of, or_and_of}
use Rattle.expr_bits.proofs.Making.{kept, made_is, then_or_and}
use Rattle.expr_bits.proofs.pieces.relation_step.Goals as goal

pub returns-in_ok-upto-in-Less : goal.returns-in_ok-upto-in-Less
returns-in_ok-upto-in-Less c =
    let old = c.args.exprs.now in
    let mid = c.under_bit.new.exprs in
    let last = c.upto_bit.new.exprs in
    let x = formula_at (arena old) c.args.x in
    let y = formula_at (arena old) c.args.y in
    let d = formula_at (arena old) c.args.found in
    let one : Makes ShowsOne old mid (Ok c.in_ok-under-in-Less.under) (under_of x y) = c.in_ok-under-in-Less.ensures in
    let a = kept (arena old) (arena mid) (under_of x y).nodes c.args.x one.grew c.requires.x in
    let b = kept (arena old) (arena mid) (under_of x y).nodes c.args.y one.grew c.requires.y in
    let two : Makes ShowsOne mid last (Ok c.in_ok-upto-in-Less.upto) (upto_of x y) = rw (a, b) at c.in_ok-upto-in-Less.ensures in
    let same : (under_of x y >>= λ p. upto_of x y >>= λ q. or_and_of p q d) ≡ less_bit x y d = made_is _ _ refl (omega arith) in
    rw c.in-Less.is
    (subst (λ (m : Made Formula). Makes ShowsOne old c.or_and.new.exprs c.or_and.result m) same
    (then_or_and old mid last c.or_and.new.exprs c.in_ok-under-in-Less.under c.in_ok-upto-in-Less.upto c.args.found c.or_and.result (under_of x y) (upto_of x y) d one two (c.requires.found, refl) c.or_and.ensures))
