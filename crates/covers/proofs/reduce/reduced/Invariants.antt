use Rattle.std.proofs.Common.{◌≡◌, Bool, true, List, slice_range}
use Rattle.covers.proofs.Common.{AsksBelow, has_point, IsReduced}
use Rattle.covers.proofs.reduce.reduced.Given as goal

abbrev pub invariant-loop-variable : goal.invariant-loop-variable
invariant-loop-variable l = record {
  same : l.pool ≡ l.initial.pool;
  below : AsksBelow l.vars l.found;
  inside : (p : List Bool) → has_point l.found p ≡ true → has_point l.fn.row p ≡ true;
  reduced : IsReduced (slice_range l.initial.pool.cubes l.fn.others.from l.fn.others.to) (slice_range l.initial.pool.cubes l.fn.needed.from l.fn.needed.to) l.vars l.fn.row l.found;
}
