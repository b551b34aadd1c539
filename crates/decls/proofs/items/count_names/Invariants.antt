-- The names so far, of which each item has fewer than a machine counts.
use Rattle.std.proofs.Common.{◌≡◌, ◌≤◌, ◌*◌, length, take}
use Rattle.decls.proofs.Common.{given_names}
use Rattle.decls.proofs.items.count_names.Given as goal

abbrev pub invariant-loop-item : goal.invariant-loop-item
invariant-loop-item l = record {
  counted : l.count ≡ length (given_names (take l.item-index l.items));
  few : l.count ≤ l.item-index * 18446744073709551616;
}
