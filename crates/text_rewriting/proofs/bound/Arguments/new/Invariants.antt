-- The pairs that were kept represent their parameters.
use Rattle.std.proofs.Common.{◌≡◌, ◌≤◌, length, drop}
use Rattle.text_rewriting.proofs.Common.{standing_for, names, texts, bound}
use Rattle.text_rewriting.proofs.bound.Arguments.new.Given as goal

abbrev pub invariant-pairs : goal.invariant-pairs
invariant-pairs l =
    record {
      pairs : bound l.by_name.entries ≡ standing_for (names (drop l.left l.parameters)) (texts (drop l.left l.arguments));
      few : l.left ≤ length l.parameters;
      fewer : l.left ≤ length l.arguments;
    }

abbrev pub decreases-pairs : goal.decreases-pairs
decreases-pairs l = l.left
