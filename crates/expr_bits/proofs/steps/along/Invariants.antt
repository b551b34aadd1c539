-- The bits so far with the carry, and what is left.
use Rattle.std.proofs.Common.{drop}
use Rattle.expr_bits.proofs.Common.{arena, formula_at, along, word_at}
use Rattle.expr_bits.proofs.Making.{Going}
use Rattle.expr_bits.proofs.WordPlaces.{Running, left}
use Rattle.expr_bits.proofs.steps.along.Given as goal

abbrev pub invariant-loop-i : goal.invariant-loop-i
invariant-loop-i l =
    let xs = word_at (arena l.fn.exprs) l.first in
    let ys = word_at (arena l.fn.exprs) l.second in
    Going Running l.fn.exprs l.exprs (l.found, l.carry) (λ a. left l.sweep.step a (drop l.i xs) (drop l.i ys)) (along l.sweep.step (formula_at (arena l.fn.exprs) l.sweep.carry) xs ys)
