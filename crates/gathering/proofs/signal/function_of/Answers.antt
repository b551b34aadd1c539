use Rattle.std.proofs.Common.{false, subst, sym, ◌∙◌, arith}
use Rattle.gathering.proofs.Common.{arena, contributions_in}
use Rattle.gathering.proofs.GivenAmounts.{both_one, both_any, single_one, single_any, IsMade, both_made, single_made, both_seen, complement_seen, function_made}
use Rattle.gathering.proofs.Standing.{stands_on}
use Rattle.gathering.proofs.signal.function_of.Goals as goal

pub returns-in_ok-any-clause-function : goal.returns-in_ok-any-clause-function
returns-in_ok-any-clause-function c = λ first last before lie behind.
    let old = arena c.args.exprs.now in
    let mid = arena c.bit_of.new.exprs in
    let list = c.args.list.now in
    let s = c.args.signal in
    let later = stands_on mid (arena c.bit_of-then-is_both.new.exprs) last c.in_ok-any.ensures.stands behind in
    function_made first last list s both_one both_any false c.in_ok-one.one c.in_ok-any.any
    (c.in_ok-one.ensures.bit first last before lie later) (c.in_ok-any.ensures.bit first last (stands_on first old mid before c.in_ok-one.ensures.stands) lie behind)
    (omega (arith, c.in_ok-one.ensures.inside, later.longer), omega (arith, c.in_ok-any.ensures.inside, behind.longer))
    (both_made (contributions_in first list) s (sym (both_seen first s list) ∙ sym c.is_both.ensures ∙ c.if-is_both.true))

pub returns-in_ok-any-2-clause-function : goal.returns-in_ok-any-2-clause-function
returns-in_ok-any-2-clause-function c = λ first last before lie behind.
    let old = arena c.args.exprs.now in
    let mid = arena c.bit_of-else-is_both.new.exprs in
    let list = c.args.list.now in
    let s = c.args.signal in
    let later = stands_on mid (arena c.bit_of-else-is_both-2.new.exprs) last c.in_ok-any-2.ensures.stands behind in
    function_made first last list s single_one single_any c.is_complement.result c.in_ok-one-2.one c.in_ok-any-2.any
    (c.in_ok-one-2.ensures.bit first last before lie later) (c.in_ok-any-2.ensures.bit first last (stands_on first old mid before c.in_ok-one-2.ensures.stands) lie behind)
    (omega (arith, c.in_ok-one-2.ensures.inside, later.longer), omega (arith, c.in_ok-any-2.ensures.inside, behind.longer))
    (subst (IsMade (contributions_in first list) s single_one single_any) (sym (c.is_complement.ensures ∙ complement_seen first s list))
    (single_made (contributions_in first list) s (sym (both_seen first s list) ∙ sym c.is_both.ensures ∙ c.if-is_both.false)))
