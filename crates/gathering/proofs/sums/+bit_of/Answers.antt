use Rattle.std.proofs.Common.{true, false, ap, ap₂, take, drop, length, ◌-◌, arith, sym, ◌∙◌}
use Rattle.gathering.proofs.Common.{IfOk-weaker, arena, make_not, make_or, arena_count, first_formula, contributions_in, bit_of}
use Rattle.gathering.proofs.GivenAmounts.{no_steps, first_step, not_if, when_free, when_bound}
use Rattle.gathering.proofs.Standing.{added, same_formula, stands_on, stands_same}
use Rattle.gathering.proofs.sums.+bit_of.Goals as goal

pub returns-in-empty-clause-bit : goal.returns-in-empty-clause-bit
returns-in-empty-clause-bit t c = λ first last before lie behind.
    same_formula (arena c.args.exprs.now) last behind 0 (omega (arith, arena_count c.args.exprs.now))
    ∙ first_formula c.args.exprs.now 0 (omega arith) ∙ no_steps c.args.signal (contributions_in first c.args.list.now) c.args.steps.now c.in-empty.len_below

pub returns-in-empty-clause-inside : goal.returns-in-empty-clause-inside
returns-in-empty-clause-inside t c = omega (arith, arena_count c.args.exprs.now)

pub returns-in_ok-behind-in-Or-clause-bit : goal.returns-in_ok-behind-in-Or-clause-bit
returns-in_ok-behind-in-Or-clause-bit t c =
    let old = arena c.args.exprs.now in
    let mid = arena c.part_sum.new.exprs in
    let later = arena c.bit_of.new.exprs in
    added old (arena c.add_more.new.self) c.args.list.now _ (λ first. bit_of c.args.steps.now c.args.signal (contributions_in first c.args.list.now)) c.add_more.result c.add_more.ensures.formula c.add_more.ensures.inside
    (λ first before lie.
    ap₂ (λ f g. (make_or f g).what)
    (c.in_ok-sum-in-Or.ensures.sum first later before lie c.in_ok-behind-in-Or.ensures.stands)
    (c.in_ok-behind-in-Or.ensures.bit first later (stands_on first old mid before c.in_ok-sum-in-Or.ensures.stands) lie (stands_same later))
    ∙ first_step c.args.signal (contributions_in first c.args.list.now) c.args.steps.now _ _ c.in-len1-up.len_at_least c.in-Or.is)

pub returns-then-complement-clause-bit : goal.returns-then-complement-clause-bit
returns-then-complement-clause-bit t c =
    let later = arena c.bit_of-in-NotIf.new.exprs in
    added (arena c.args.exprs.now) (arena c.add_more-then-complement.new.self) c.args.list.now _ (λ first. bit_of c.args.steps.now c.args.signal (contributions_in first c.args.list.now)) c.add_more-then-complement.result c.add_more-then-complement.ensures.formula c.add_more-then-complement.ensures.inside
    (λ first before lie.
    ap (λ f. (make_not f).what) (c.in_ok-behind-in-NotIf.ensures.bit first later before lie (stands_same later))
    ∙ not_if first c.args.signal c.args.list.now (take (length c.args.steps.now - 1) (drop 1 c.args.steps.now)) c.in-NotIf.complement true c.if-complement.true
    ∙ first_step c.args.signal (contributions_in first c.args.list.now) c.args.steps.now _ _ c.in-len1-up.len_at_least c.in-NotIf.is)

pub returns-else-complement-clause-bit : goal.returns-else-complement-clause-bit
returns-else-complement-clause-bit t c = λ first last before lie behind.
    c.in_ok-behind-in-NotIf.ensures.bit first last before lie behind
    ∙ not_if first c.args.signal c.args.list.now (take (length c.args.steps.now - 1) (drop 1 c.args.steps.now)) c.in-NotIf.complement false c.if-complement.false
    ∙ first_step c.args.signal (contributions_in first c.args.list.now) c.args.steps.now _ _ c.in-len1-up.len_at_least c.in-NotIf.is

pub returns-in_ok-matches-in-Unmatched-clause-bit : goal.returns-in_ok-matches-in-Unmatched-clause-bit
returns-in_ok-matches-in-Unmatched-clause-bit t c =
    let later = arena c.part_sum-then-is_free.new.exprs in
    let rest = take (length c.args.steps.now - 1) (drop 1 c.args.steps.now) in
    added (arena c.args.exprs.now) (arena c.add_more-then-is_free.new.self) c.args.list.now _ (λ first. bit_of c.args.steps.now c.args.signal (contributions_in first c.args.list.now)) c.add_more-then-is_free.result c.add_more-then-is_free.ensures.formula c.add_more-then-is_free.ensures.inside
    (λ first before lie.
    ap (λ f. (make_not f).what) (c.in_ok-matches-in-Unmatched.ensures.sum first later before lie (stands_same later))
    ∙ when_free first c.args.signal c.args.list.now rest (sym c.is_free.ensures ∙ c.if-is_free.true)
    ∙ first_step c.args.signal (contributions_in first c.args.list.now) c.args.steps.now _ _ c.in-len1-up.len_at_least c.in-Unmatched.is)

pub returns-else-is_free-clause-bit : goal.returns-else-is_free-clause-bit
returns-else-is_free-clause-bit t c =
    let rest = take (length c.args.steps.now - 1) (drop 1 c.args.steps.now) in
    IfOk-weaker c.bit_of-else-is_free.result _ _
    (λ id is first last before lie behind.
    is first last before lie behind
    ∙ when_bound first c.args.signal c.args.list.now rest (sym c.is_free.ensures ∙ c.if-is_free.false)
    ∙ first_step c.args.signal (contributions_in first c.args.list.now) c.args.steps.now _ _ c.in-len1-up.len_at_least c.in-Unmatched.is)
    c.bit_of-else-is_free.ensures.bit
