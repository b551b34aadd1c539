-- One position more, and all positions.
use Rattle.std.proofs.Common.{◌≡◌, ◌<◌, ◌≤◌, [], Result, Err, refl, sym, ap, ◌∙◌, subst, arith, drop}
use Rattle.expr_bits.proofs.Common.{err_from_is_err_and, Vec, arena, formula_at, ExprFault, ExprId, along, step_by, Makes, ShowsItems, ShowsTwo, word_at}
use Rattle.bit_expr.specs.declared.fault.ExprFault.TheVariants as fault
use Rattle.expr_bits.proofs.Making.{going_start, in_at}
use Rattle.expr_bits.proofs.WordPlaces.{Running, folds_on, fold_ends, fold_stops, last_is, left, left_more, left_none, put_bit, running_on}
use Rattle.expr_bits.proofs.steps.along.Goals as goal

pub step_by-requires-clause-x : goal.step_by-requires-clause-x
step_by-requires-clause-x c = omega (arith, in_at _ _ c.loop-i.i (record { 0 = 0 }) c.requires.first c.loop-i-test.true, c.loop-i.invariant.is.grew.count)

pub step_by-requires-clause-y : goal.step_by-requires-clause-y
step_by-requires-clause-y c = omega (arith, in_at _ _ c.loop-i.i (record { 0 = 0 }) c.requires.second (subst (λ n. c.loop-i.i < n) c.requires.same c.loop-i-test.true), c.loop-i.invariant.is.grew.count)

pub loop-i-init : goal.loop-i-init
loop-i-init c =
    let old = c.args.exprs.now in
    let g = c.args.sweep.step in
    let carry = formula_at (arena old) c.args.sweep.carry in
    let xs = word_at (arena old) c.args.first.now in
    let ys = word_at (arena old) c.args.second.now in
    going_start Running old (c.new-found.result, c.args.sweep.carry) (λ a. left g a (drop 0 xs) (drop 0 ys)) (along g carry xs ys) ([], carry)
    (rw c.new-found.ensures.items (tt, refl), (c.requires.carry, refl)) refl (omega arith)

pub loop-i-preserved : goal.loop-i-preserved
loop-i-preserved c =
    let g = c.args.sweep.step in
    let k = subst (λ n. c.loop-i.i < n) c.requires.same c.loop-i-test.true in
    folds_on Running ShowsTwo ShowsItems (λ last x y a. step_by g last x y a.1) put_bit (left g) (left_more g) c.args.exprs.now c.loop-i.exprs c.step_by.new.exprs c.args.first.now c.args.second.now c.loop-i.i (c.loop-i.found, c.loop-i.carry) _ c.requires.first c.requires.second c.loop-i-test.true k c.loop-i.invariant
    _ (last_is (arena c.args.exprs.now) c.args.first.now c.loop-i.i c.loop-i-test.true) c.in_ok-made.made (c.push.new.self, c.in_ok-made.made.1) (rw c.loop-i.invariant.is.shows.1.1 at c.in_ok-made.ensures)
    (running_on c.loop-i.exprs c.step_by.new.exprs (c.loop-i.found, c.loop-i.carry) c.push.new.self c.in_ok-made.made c.loop-i.invariant.part.what c.in_ok-push.ensures.items c.loop-i.invariant.is.shows)

pub returns-in_err-made : goal.returns-in_err-made
returns-in_err-made c =
    let old = c.args.exprs.now in
    let g = c.args.sweep.step in
    let k = subst (λ n. c.loop-i.i < n) c.requires.same c.loop-i-test.true in
    let all = along g (formula_at (arena old) c.args.sweep.carry) (word_at (arena old) c.args.first.now) (word_at (arena old) c.args.second.now) in
    let p = err_from_is_err_and c.from_residual.result c.from_residual.ensures.1 in
    subst (λ (r : Result (Vec ExprId) ExprFault). Makes ShowsItems old c.step_by.new.exprs r all) (sym p.1)
    (fold_stops Running ShowsTwo ShowsItems (λ last x y a. step_by g last x y a.1) put_bit (left g) (left_more g) old c.loop-i.exprs c.step_by.new.exprs c.args.first.now c.args.second.now c.loop-i.i (c.loop-i.found, c.loop-i.carry) all c.requires.first c.requires.second c.loop-i-test.true k c.loop-i.invariant
    _ (last_is (arena old) c.args.first.now c.loop-i.i c.loop-i-test.true) p.0 (rw p.2 (rw c.loop-i.invariant.is.shows.1.1 at c.in_err-made.ensures)))

pub returns-in_err-push : goal.returns-in_err-push
returns-in_err-push c =
    let old = c.args.exprs.now in
    let all = along c.args.sweep.step (formula_at (arena old) c.args.sweep.carry) (word_at (arena old) c.args.first.now) (word_at (arena old) c.args.second.now) in
    let p = err_from_is_err_and c.from_residual-in_err-push.result c.from_residual-in_err-push.ensures.1 in
    let e : c.from_residual-in_err-push.result ≡ Err fault.OutOfMemory = p.1 ∙ ap Err p.2 in
    subst (λ (r : Result (Vec ExprId) ExprFault). Makes ShowsItems old c.step_by.new.exprs r all) (sym e)
    (λ j t h. c.in_ok-made.ensures.grew.keeps j t (c.loop-i.invariant.is.grew.keeps j t h))

pub returns : goal.returns
returns c =
    let g = c.args.sweep.step in
    let k = subst (λ n. n ≤ c.loop-i.i) c.requires.same c.loop-i-test.false in
    let made = c.loop-i.invariant.part.what in
    fold_ends Running ShowsTwo ShowsItems (λ last x y a. step_by g last x y a.1) put_bit (left g) (left_more g) c.args.exprs.now c.loop-i.exprs c.args.first.now c.args.second.now c.loop-i.i (c.loop-i.found, c.loop-i.carry) c.loop-i.found _ c.loop-i-test.false k c.loop-i.invariant
    made.0 (left_none g made) c.loop-i.invariant.is.shows.0
