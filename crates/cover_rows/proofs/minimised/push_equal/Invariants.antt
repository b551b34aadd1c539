use Rattle.std.proofs.Common.{◌≡◌, drop, length, take}
use Rattle.covers.specs.Cubes.{AllAskBelow}
use Rattle.cover_rows.proofs.minimised.push_equal.Given as goal

abbrev pub invariant-loop-number : goal.invariant-loop-number
invariant-loop-number l = record {
  kept : take (length l.initial.pool.cubes) l.pool.cubes ≡ l.initial.pool.cubes;
  below : AllAskBelow 20 (drop (length l.initial.pool.cubes) l.pool.cubes);
}
