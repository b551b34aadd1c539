-- The nodes so far have their next values, and the others 0.
use Rattle.std.proofs.Common.{ℕ}
use Rattle.fitter.proofs.Common.{bits, levels_of, complement_if, formula_value, function_of_node, node_formula}
use Rattle.fitter.proofs.Stepping.{LevelsBelow}
use Rattle.fitter.proofs.evaluating.next_nodes.Given as goal

abbrev pub invariant-loop-node : goal.invariant-loop-node
invariant-loop-node l = record {
  below : LevelsBelow (λ n. complement_if (function_of_node l.net n).complement (formula_value (levels_of l.at) (node_formula l.net n))) 128 l.node (bits 128 l.nodes);
}
