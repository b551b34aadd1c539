use Rattle.std.proofs.Common.{◌≤◌}
use Rattle.test_vectors.proofs.search.Search.gain.Given as goal

abbrev pub invariant-loop-index : goal.invariant-loop-index
invariant-loop-index g l = l.found ≤ l.index
