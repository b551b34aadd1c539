-- The complement, and then the sum.
use Rattle.std.proofs.Common.{◌≡◌, length, true, refl, sym, ap, ◌∙◌, subst}
use Rattle.expr_bits.proofs.Common.{length-map, arena, formula_at, Const, each_not, sum_bits, difference_bits, Makes, ShowsItems, word_at}
use Rattle.expr_bits.proofs.AlongWords.{one_there, one_is, length_not, sum_along}
use Rattle.expr_bits.proofs.OperatedBits.{shown_length}
use Rattle.expr_bits.proofs.Making.{in_kept, word_kept, then_all}
use Rattle.expr_bits.proofs.word_operators.difference_word.Goals as goal

pub along-requires-clause-carry : goal.along-requires-clause-carry
along-requires-clause-carry c = one_there c.complement_word.new.exprs

pub along-requires-clause-first : goal.along-requires-clause-first
along-requires-clause-first c = in_kept (arena c.args.exprs.now) (arena c.complement_word.new.exprs) _ c.args.first.now c.in_ok-complement.ensures.grew c.requires.first

pub along-requires-clause-same : goal.along-requires-clause-same
along-requires-clause-same c =
    let ys = word_at (arena c.args.exprs.now) c.args.second.now in
    let long = shown_length (arena c.complement_word.new.exprs) c.in_ok-complement.complement.items (each_not ys).what c.in_ok-complement.ensures.shows in
    c.requires.same ∙ sym (ap length c.as_slice.ensures.value ∙ long ∙ length_not ys ∙ length-map c.args.second.now (λ id. formula_at (arena c.args.exprs.now) id))

pub returns : goal.returns
returns c =
    let fs = arena c.args.exprs.now in
    let mid = arena c.complement_word.new.exprs in
    let xs = word_at fs c.args.first.now in
    let ys = word_at fs c.args.second.now in
    let one = c.in_ok-complement.ensures in
    let a = word_kept fs mid (each_not ys).nodes c.args.first.now one.grew c.requires.first in
    let b : word_at mid c.as_slice.result.now ≡ (each_not ys).what = ap (word_at mid) c.as_slice.ensures.value ∙ one.shows.1 in
    let two : Makes ShowsItems c.complement_word.new.exprs c.along.new.exprs c.along.result (sum_bits xs (each_not ys).what (Const true)) =
    subst (λ m. Makes ShowsItems c.complement_word.new.exprs c.along.new.exprs c.along.result m) (sum_along (Const true) xs (each_not ys).what)
    (rw (a, b, one_is c.complement_word.new.exprs) at c.along.ensures) in
    then_all ShowsItems ShowsItems c.args.exprs.now c.complement_word.new.exprs c.along.new.exprs c.in_ok-complement.complement c.along.result (each_not ys) (sum_bits xs (each_not ys).what (Const true)) (difference_bits xs ys) one two refl refl
