-- Two's complement is zeros less the word.
use Rattle.std.proofs.Common.{◌≡◌, length, false, map, sym, ap, ◌∙◌, subst}
use Rattle.expr_bits.proofs.Common.{length-replicate, arena, Const, AllIn, word_at}
use Rattle.expr_bits.proofs.PositionWords.{zeros_in, zeros_at}
use Rattle.expr_bits.proofs.word_operators.unary_word.Goals as goal

pub difference_word-requires-clause-first : goal.difference_word-requires-clause-first
difference_word-requires-clause-first c =
    subst (AllIn (length (arena c.args.exprs.now))) (sym (c.as_slice.ensures.value ∙ c.in_ok-none-in-Minus.ensures)) (zeros_in c.args.exprs.now (length c.args.word.now))

pub difference_word-requires-clause-same : goal.difference_word-requires-clause-same
difference_word-requires-clause-same c =
    ap length (c.as_slice.ensures.value ∙ c.in_ok-none-in-Minus.ensures) ∙ length-replicate (length c.args.word.now) (record { 0 = 0 })

pub returns-in_ok-none-in-Minus : goal.returns-in_ok-none-in-Minus
returns-in_ok-none-in-Minus c =
    let fs = arena c.args.exprs.now in
    let xs : word_at fs c.as_slice.result.now ≡ map (λ x. Const false) (word_at fs c.args.word.now) = ap (word_at fs) (c.as_slice.ensures.value ∙ c.in_ok-none-in-Minus.ensures) ∙ zeros_at c.args.exprs.now c.args.word.now in
    rw c.in-Minus.is (rw xs at c.difference_word.ensures)
