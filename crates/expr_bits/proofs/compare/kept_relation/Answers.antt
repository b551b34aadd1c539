-- What is kept of both has one width.
use Rattle.std.proofs.Common.{◌≡◌, length, sym, ap, ◌∙◌, subst}
use Rattle.expr_bits.proofs.Common.{arena, kept_bits, AllIn, word_at}
use Rattle.expr_bits.proofs.PositionWords.{kept_in, kept_at, kept_length}
use Rattle.expr_bits.proofs.compare.kept_relation.Goals as goal

pub relation_word-requires-clause-first : goal.relation_word-requires-clause-first
relation_word-requires-clause-first c =
    subst (AllIn (length (arena c.args.exprs.now))) (sym (c.as_slice.ensures.value ∙ c.in_ok-xs.ensures)) (kept_in (length (arena c.args.exprs.now)) c.args.words.now.dropped.now c.args.words.now.first.now c.requires.first)

pub relation_word-requires-clause-second : goal.relation_word-requires-clause-second
relation_word-requires-clause-second c =
    subst (AllIn (length (arena c.args.exprs.now))) (sym (c.as_slice-2.ensures.value ∙ c.in_ok-ys.ensures)) (kept_in (length (arena c.args.exprs.now)) c.args.words.now.dropped.now c.args.words.now.second.now c.requires.second)

pub relation_word-requires-clause-same : goal.relation_word-requires-clause-same
relation_word-requires-clause-same c =
    ap length (c.as_slice.ensures.value ∙ c.in_ok-xs.ensures)
    ∙ (kept_length c.args.words.now.dropped.now c.args.words.now.first.now c.args.words.now.second.now c.requires.same
    ∙ sym (ap length (c.as_slice-2.ensures.value ∙ c.in_ok-ys.ensures)))

pub returns : goal.returns
returns c =
    let fs = arena c.args.exprs.now in
    let xs : word_at fs c.as_slice.result.now ≡ kept_bits c.args.words.now.dropped.now (word_at fs c.args.words.now.first.now) = ap (word_at fs) (c.as_slice.ensures.value ∙ c.in_ok-xs.ensures) ∙ kept_at fs c.args.words.now.dropped.now c.args.words.now.first.now in
    let ys : word_at fs c.as_slice-2.result.now ≡ kept_bits c.args.words.now.dropped.now (word_at fs c.args.words.now.second.now) = ap (word_at fs) (c.as_slice-2.ensures.value ∙ c.in_ok-ys.ensures) ∙ kept_at fs c.args.words.now.dropped.now c.args.words.now.second.now in
    rw (xs, ys) at c.relation_word.ensures
