-- The rows so far lie in the cover.
use Rattle.std.proofs.Common.{◌≡◌, take, slice_range}
use Rattle.fitter.proofs.Common.{CoversList}
use Rattle.fitter.proofs.apart.missed_in.Given as goal

abbrev pub invariant-loop-row : goal.invariant-loop-row
invariant-loop-row l = record {
  same : l.pool ≡ l.initial.pool;
  covered : CoversList (slice_range l.initial.pool.cubes l.fn.cover.from l.fn.cover.to) (take l.row-index l.rows) l.vars;
}
