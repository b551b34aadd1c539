-- What is first of the cells from a place on.
use Rattle.std.proofs.Common.{◌≡◌, ◌≤◌, drop, length, map, IfSome}
use Rattle.source_machine.proofs.Common.{option_map, arena, first_with, plain_wanted, IsCellIn, own_formula}
use Rattle.source_machine.proofs.controls.first_with.Given as goal

abbrev pub invariant-loop-rest : goal.invariant-loop-rest
invariant-loop-rest l = record {
  same : l.cells ≡ l.net.cells;
  low : l.rest ≤ length l.net.cells;
  first : option_map (plain_wanted (arena l.net.exprs)) l.first ≡ first_with (own_formula l.which) (map (plain_wanted (arena l.net.exprs)) (drop l.rest l.net.cells));
  inside : IfSome l.first (IsCellIn (length (arena l.net.exprs)));
}

abbrev pub decreases-loop-rest : goal.decreases-loop-rest
decreases-loop-rest l = l.rest
