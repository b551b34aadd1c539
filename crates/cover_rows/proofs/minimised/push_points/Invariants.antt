use Rattle.std.proofs.Common.{◌≡◌, drop, length, take}
use Rattle.covers.specs.Cubes.{AllAskBelow}
use Rattle.cover_rows.proofs.minimised.push_points.Given as goal

abbrev pub invariant-loop-point : goal.invariant-loop-point
invariant-loop-point l = record {
  kept : take (length l.initial.pool.cubes) l.pool.cubes ≡ l.initial.pool.cubes;
  below : AllAskBelow l.vars (drop (length l.initial.pool.cubes) l.pool.cubes);
}
