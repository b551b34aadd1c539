use Rattle.std.proofs.Common.{◌≡◌, ◌+◌, ◌≤◌, length, take, drop, slice_range}
use Rattle.covers.proofs.Common.{IsExpanded}
use Rattle.covers.proofs.expand.push_expanded.Given as goal

abbrev pub invariant-loop-place : goal.invariant-loop-place
invariant-loop-place l = record {
  kept : take (length l.initial.pool.cubes) l.pool.cubes ≡ l.initial.pool.cubes;
  spare : l.pool.spare + length l.pool.cubes ≡ l.initial.pool.spare + length l.initial.pool.cubes;
  from : l.fn.needed.from ≤ l.place;
  rows : IsExpanded (slice_range l.initial.pool.cubes l.fn.allowed.range.from l.fn.allowed.range.to) (slice_range l.initial.pool.cubes l.fn.needed.from l.place) l.vars (drop (length l.initial.pool.cubes) l.pool.cubes);
}
