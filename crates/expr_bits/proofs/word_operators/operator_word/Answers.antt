-- Each operator that has a step goes along both words.
use Rattle.std.proofs.Common.{Ok, sym, subst, ◌∙◌}
use Rattle.expr_bits.proofs.Common.{arena, Makes, ShowsItems, word_at}
use Rattle.expr_bits.proofs.AlongWords.{zero_there, zero_is, no_operator, operator_along}
use Rattle.expr_bits.proofs.PositionWords.{zeros_made}
use Rattle.expr_bits.proofs.word_operators.operator_word.Goals as goal

pub along-requires-clause-carry : goal.along-requires-clause-carry
along-requires-clause-carry c = zero_there c.args.exprs.now

pub returns-in-Some : goal.returns-in-Some
returns-in-Some c =
    let old = c.args.exprs.now in
    subst (λ m. Makes ShowsItems old c.along.new.exprs c.along.result m)
    (operator_along c.args.sign c.in-Some.step (word_at (arena old) c.args.first.now) (word_at (arena old) c.args.second.now) (sym c.in-Some.is ∙ c.step_of.ensures))
    (rw (zero_is old) at c.along.ensures)

pub returns-in_ok-spread_word-in-None : goal.returns-in_ok-spread_word-in-None
returns-in_ok-spread_word-in-None c =
    let old = c.args.exprs.now in
    subst (λ m. Makes ShowsItems old old (Ok c.in_ok-spread_word-in-None.field-0) m)
    (sym (no_operator c.args.sign (word_at (arena old) c.args.first.now) (word_at (arena old) c.args.second.now) (sym c.in-None.is ∙ c.step_of.ensures) c.in_default.not-Minus))
    (zeros_made old c.args.first.now c.in_ok-spread_word-in-None.field-0 c.in_ok-spread_word-in-None.ensures)
