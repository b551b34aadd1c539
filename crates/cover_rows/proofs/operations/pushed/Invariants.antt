use Rattle.std.proofs.Common.{◌≤◌, drop, length}
use Rattle.covers.specs.Cubes.{AllAskBelow}
use Rattle.cover_rows.proofs.operations.pushed.Given as goal

abbrev pub invariant-loop-row : goal.invariant-loop-row
invariant-loop-row l = record {
  order : l.from ≤ length l.pool.cubes;
  below : AllAskBelow l.vars (drop l.from l.pool.cubes);
}
