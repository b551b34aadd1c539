-- No function so far has a later id.
use Rattle.std.proofs.Common.{◌≡◌, ◌<◌, ◌≤◌, ℕ, length}
use Rattle.fitter.proofs.Common.{arena, function_of_node}
use Rattle.fitter.proofs.evaluating.last_of.Given as goal

abbrev pub invariant-loop-function : goal.invariant-loop-function
invariant-loop-function l = record {
  inside : l.last < length (arena l.net.exprs);
  each : (n : ℕ) → n < l.function-index → (function_of_node l.net n).one.0 ≤ l.last;
}
