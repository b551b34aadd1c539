-- Both words from their other end on.
use Rattle.std.proofs.Common.{◌≡◌, length, reverse, sym, ap, ◌∙◌, subst}
use Rattle.expr_bits.proofs.Common.{length-reverse, arena, formula_at, AllIn, word_at}
use Rattle.abel_meaning.proofs.RelationWords.{map_reverse}
use Rattle.expr_bits.proofs.Making.{in_reverse}
use Rattle.expr_bits.proofs.compare.equal_word.Goals as goal

pub found_along-requires-clause-first : goal.found_along-requires-clause-first
found_along-requires-clause-first c =
    subst (λ ids. AllIn (length (arena c.args.exprs.now)) ids) (sym (c.as_slice.ensures.value ∙ c.reverse.ensures.items ∙ ap reverse c.in_ok-xs.ensures.items)) (in_reverse (length (arena c.args.exprs.now)) c.args.first.now c.requires.first)

pub found_along-requires-clause-second : goal.found_along-requires-clause-second
found_along-requires-clause-second c =
    subst (λ ids. AllIn (length (arena c.args.exprs.now)) ids) (sym (c.as_slice-2.ensures.value ∙ c.reverse-2.ensures.items ∙ ap reverse c.in_ok-ys.ensures.items)) (in_reverse (length (arena c.args.exprs.now)) c.args.second.now c.requires.second)

pub found_along-requires-clause-same : goal.found_along-requires-clause-same
found_along-requires-clause-same c =
    ap length (c.as_slice.ensures.value ∙ c.reverse.ensures.items ∙ ap reverse c.in_ok-xs.ensures.items)
    ∙ (length-reverse c.args.first.now ∙ (c.requires.same ∙ (sym (length-reverse c.args.second.now) ∙ sym (ap length (c.as_slice-2.ensures.value ∙ c.reverse-2.ensures.items ∙ ap reverse c.in_ok-ys.ensures.items)))))

pub returns : goal.returns
returns c =
    let fs = arena c.args.exprs.now in
    let xs : word_at fs c.as_slice.result.now ≡ reverse (word_at fs c.args.first.now) = ap (word_at fs) (c.as_slice.ensures.value ∙ c.reverse.ensures.items ∙ ap reverse c.in_ok-xs.ensures.items) ∙ map_reverse (λ id. formula_at fs id) c.args.first.now in
    let ys : word_at fs c.as_slice-2.result.now ≡ reverse (word_at fs c.args.second.now) = ap (word_at fs) (c.as_slice-2.ensures.value ∙ c.reverse-2.ensures.items ∙ ap reverse c.in_ok-ys.ensures.items) ∙ map_reverse (λ id. formula_at fs id) c.args.second.now in
    rw (xs, ys) at c.found_along.ensures
