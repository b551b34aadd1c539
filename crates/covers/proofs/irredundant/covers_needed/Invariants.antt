use Rattle.std.proofs.Common.{◌≡◌, ◌≤◌, slice_range}
use Rattle.covers.proofs.Common.{CoversCommon}
use Rattle.covers.proofs.irredundant.covers_needed.Given as goal

abbrev pub invariant-loop-place : goal.invariant-loop-place
invariant-loop-place l = record {
  same : l.pool ≡ l.initial.pool;
  from : l.fn.needed.from ≤ l.place;
  so_far : CoversCommon (slice_range l.initial.pool.cubes l.fn.cover.from l.fn.cover.to) (slice_range l.initial.pool.cubes l.fn.needed.from l.place) l.cube l.vars;
}
