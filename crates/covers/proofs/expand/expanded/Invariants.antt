use Rattle.std.proofs.Common.{◌≡◌, ◌<◌, ◌^◌, slice_range}
use Rattle.covers.proofs.Common.{AsksBelow, Grows, CoversCube}
use Rattle.covers.proofs.Literals.{IsTriedPast}
use Rattle.covers.proofs.expand.expanded.Given as goal

abbrev pub invariant-loop-left : goal.invariant-loop-left
invariant-loop-left l = record {
  same : l.pool ≡ l.initial.pool;
  low : l.left < 2 ^ l.vars;
  below : AsksBelow l.vars l.found;
  inside : CoversCube (slice_range l.initial.pool.cubes l.fn.allowed.range.from l.fn.allowed.range.to) l.found l.vars;
  grows : Grows l.vars l.fn.cube l.found;
  tried : IsTriedPast (slice_range l.initial.pool.cubes l.fn.allowed.range.from l.fn.allowed.range.to) l.vars l.left l.found;
}

abbrev pub decreases-loop-left : goal.decreases-loop-left
decreases-loop-left l = l.left
