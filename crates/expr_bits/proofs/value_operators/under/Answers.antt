-- The word of the value is that of the bits.
use Rattle.std.proofs.Common.{refl, subst}
use Rattle.expr_bits.proofs.Common.{arena, unary_word, IsMade, ShowsItems, word_at}
use Rattle.expr_bits.proofs.OperatedBits.{under_made}
use Rattle.expr_bits.proofs.value_operators.under.Goals as goal

pub returns : goal.returns
returns c p is =
    let old = c.args.exprs.now in
    let new = c.unary_word.new.exprs in
    under_made old new c.args.inner _ c.args.sign c.in_ok-word.word p is
    (subst (λ ids. IsMade ShowsItems (arena old) (arena new) c.in_ok-word.word (unary_word c.args.sign (word_at (arena old) ids))) c.as_slice.ensures c.in_ok-word.ensures)
    c.from_vec.ensures refl c.form_under.ensures.form c.form_under.ensures.unknown
