-- One position more, and all positions.
use Rattle.std.proofs.Common.{◌<◌, ◌≤◌, Result, refl, sym, subst, arith, drop}
use Rattle.expr_bits.proofs.Common.{err_from_is_err_and, arena, ExprFault, ExprId, Makes, ShowsOne, word_at, relation_step, relation_steps, start_of}
use Rattle.expr_bits.proofs.Making.{going_start, in_at}
use Rattle.expr_bits.proofs.WordPlaces.{folds_on, fold_ends, fold_stops, relation_more, relation_none, start_shown}
use Rattle.expr_bits.proofs.compare.found_along.Goals as goal

pub loop-i-init : goal.loop-i-init
loop-i-init c =
    let old = c.args.exprs.now in
    let r = c.args.relation in
    let xs = word_at (arena old) c.args.first.now in
    let ys = word_at (arena old) c.args.second.now in
    going_start ShowsOne old c.start-found.result (λ f. relation_steps r f (drop 0 xs) (drop 0 ys)) (relation_steps r (start_of r) xs ys) (start_of r)
    (subst (λ id. ShowsOne (arena old) id (start_of r)) (sym c.start-found.ensures) (start_shown old r)) refl refl

pub relation_step-requires-clause-x : goal.relation_step-requires-clause-x
relation_step-requires-clause-x c = omega (arith, in_at _ _ c.loop-i.i (record { 0 = 0 }) c.requires.first c.loop-i-test.true, c.loop-i.invariant.is.grew.count)

pub relation_step-requires-clause-y : goal.relation_step-requires-clause-y
relation_step-requires-clause-y c = omega (arith, in_at _ _ c.loop-i.i (record { 0 = 0 }) c.requires.second (subst (λ n. c.loop-i.i < n) c.requires.same c.loop-i-test.true), c.loop-i.invariant.is.grew.count)

pub loop-i-preserved : goal.loop-i-preserved
loop-i-preserved c =
    let r = c.args.relation in
    let k = subst (λ n. c.loop-i.i < n) c.requires.same c.loop-i-test.true in
    folds_on ShowsOne ShowsOne ShowsOne (λ last. relation_step r) (λ f g. g) (relation_steps r) (relation_more r) c.args.exprs.now c.loop-i.exprs c.relation_step.new.exprs c.args.first.now c.args.second.now c.loop-i.i c.loop-i.found _ c.requires.first c.requires.second c.loop-i-test.true k c.loop-i.invariant _ refl
    c.in_ok-found.found c.in_ok-found.found (rw c.loop-i.invariant.is.shows.1 at c.in_ok-found.ensures) (λ d m. m.shows)

pub returns-in_err-found : goal.returns-in_err-found
returns-in_err-found c =
    let old = c.args.exprs.now in
    let r = c.args.relation in
    let k = subst (λ n. c.loop-i.i < n) c.requires.same c.loop-i-test.true in
    let all = relation_steps r (start_of r) (word_at (arena old) c.args.first.now) (word_at (arena old) c.args.second.now) in
    let p = err_from_is_err_and c.from_residual.result c.from_residual.ensures.1 in
    subst (λ (x : Result ExprId ExprFault). Makes ShowsOne old c.relation_step.new.exprs x all) (sym p.1)
    (fold_stops ShowsOne ShowsOne ShowsOne (λ last. relation_step r) (λ f g. g) (relation_steps r) (relation_more r) old c.loop-i.exprs c.relation_step.new.exprs c.args.first.now c.args.second.now c.loop-i.i c.loop-i.found all c.requires.first c.requires.second c.loop-i-test.true k c.loop-i.invariant _ refl
    p.0 (rw p.2 (rw c.loop-i.invariant.is.shows.1 at c.in_err-found.ensures)))

pub returns : goal.returns
returns c =
    let r = c.args.relation in
    let k = subst (λ n. n ≤ c.loop-i.i) c.requires.same c.loop-i-test.false in
    fold_ends ShowsOne ShowsOne ShowsOne (λ last. relation_step r) (λ f g. g) (relation_steps r) (relation_more r) c.args.exprs.now c.loop-i.exprs c.args.first.now c.args.second.now c.loop-i.i c.loop-i.found c.loop-i.found _ c.loop-i-test.false k c.loop-i.invariant
    c.loop-i.invariant.part.what (relation_none r c.loop-i.invariant.part.what) c.loop-i.invariant.is.shows
