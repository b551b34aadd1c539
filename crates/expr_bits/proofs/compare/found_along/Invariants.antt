-- What was found before, and what is left to compare.
use Rattle.std.proofs.Common.{drop}
use Rattle.expr_bits.proofs.Common.{arena, ShowsOne, word_at, relation_steps, start_of}
use Rattle.expr_bits.proofs.Making.{Going}
use Rattle.expr_bits.proofs.compare.found_along.Given as goal

abbrev pub invariant-loop-i : goal.invariant-loop-i
invariant-loop-i l =
    let xs = word_at (arena l.fn.exprs) l.first in
    let ys = word_at (arena l.fn.exprs) l.second in
    Going ShowsOne l.fn.exprs l.exprs l.found (λ f. relation_steps l.relation f (drop l.i xs) (drop l.i ys)) (relation_steps l.relation (start_of l.relation) xs ys)
