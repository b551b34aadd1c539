use Rattle.std.proofs.Common.{◌<◌, take, length, ap, sym, ◌∙◌, arith}
use Rattle.gathering.proofs.Common.{take_more, take_all, arena, formula_at, arena_count, first_formula, contributions_in, part_sum}
use Rattle.gathering.proofs.GivenAmounts.{sum_on}
use Rattle.gathering.proofs.Standing.{same_contributions, same_formula, stands_same, stands_on}
use Rattle.gathering.proofs.sums.part_sum.Goals as goal

pub loop-given-init : goal.loop-given-init
loop-given-init c = record {
  sum = first_formula c.args.exprs.now 0 (omega arith);
  inside = omega (arith, arena_count c.args.exprs.now);
  stands = stands_same (arena c.args.exprs.now);
}

pub loop-given-preserved : goal.loop-given-preserved
loop-given-preserved c =
    let old = arena c.args.exprs.now in
    let within : c.loop-given.given-index < length c.args.list.now = omega arith in
    record {
      sum =
          c.in_ok-sum.ensures.sum
          ∙ sum_on old (arena c.loop-given.exprs) c.args.part c.args.signal (take c.loop-given.given-index c.args.list.now) _ (formula_at (arena c.loop-given.exprs) c.loop-given.sum) c.loop-given.invariant.stands (c.requires c.loop-given.given-index _ within) c.loop-given.invariant.sum
          ∙ ap (λ cs. part_sum c.args.part c.args.signal (contributions_in old cs)) (sym (take_more c.args.list.now c.loop-given.given-index _ within));
      inside = c.in_ok-sum.ensures.inside;
      stands = stands_on old (arena c.loop-given.exprs) (arena c.with_one.new.exprs) c.loop-given.invariant.stands c.in_ok-sum.ensures.stands;
    }

pub returns-clause-sum : goal.returns-clause-sum
returns-clause-sum c = λ first last before lie behind.
    let old = arena c.args.exprs.now in
    let list = c.args.list.now in
    same_formula (arena c.loop-given.exprs) last behind c.loop-given.sum.0 c.loop-given.invariant.inside
    ∙ c.loop-given.invariant.sum
    ∙ ap (λ cs. part_sum c.args.part c.args.signal (contributions_in old cs)) (take_all c.loop-given.given-index list (omega (arith, c.loop-given-test.false)))
    ∙ ap (part_sum c.args.part c.args.signal) (same_contributions first old before list lie)
