-- A complement goes along one word.
use Rattle.std.proofs.Common.{subst}
use Rattle.expr_bits.proofs.Common.{arena, formula_at, Makes, ShowsItems, word_at}
use Rattle.expr_bits.proofs.AlongWords.{zero_there, not_along}
use Rattle.expr_bits.proofs.word_operators.complement_word.Goals as goal

pub along-requires-clause-carry : goal.along-requires-clause-carry
along-requires-clause-carry c = zero_there c.args.exprs.now

pub returns : goal.returns
returns c =
    subst (λ m. Makes ShowsItems c.args.exprs.now c.along.new.exprs c.along.result m)
    (not_along (formula_at (arena c.args.exprs.now) (record { 0 = 0 })) (word_at (arena c.args.exprs.now) c.args.word.now)) c.along.ensures
