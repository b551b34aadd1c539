use Rattle.std.proofs.Common.{◌≡◌, ◌<◌, length, take}
use Rattle.gathering.proofs.Common.{arena, formula_at, contributions_in, Stands, part_sum}
use Rattle.gathering.proofs.sums.part_sum.Given as goal

abbrev pub invariant-loop-given : goal.invariant-loop-given
invariant-loop-given l = record {
  sum : formula_at (arena l.exprs) l.sum ≡ part_sum l.part l.signal (contributions_in (arena l.initial.exprs) (take l.given-index l.list));
  inside : l.sum.0 < length (arena l.exprs);
  stands : Stands (arena l.initial.exprs) (arena l.exprs);
}
