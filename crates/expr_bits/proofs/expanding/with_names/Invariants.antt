-- The names so far are before the members of the set, and weigh no more than they count.
use Rattle.std.proofs.Common.{◌≤◌, ◌+◌, map, take}
use Rattle.expr_bits.proofs.Common.{entries_of, Terms, known_of, named_before, name_items, Precedes, name_weight, range_weight, stack_weight}
use Rattle.expr_bits.proofs.expanding.with_names.Given as goal

abbrev pub invariant-loop-name : goal.invariant-loop-name
invariant-loop-name l = record {
  comes : (ts : Terms) → Precedes (entries_of l.scope) l.outer.extension l.more.items l.fn.work.items ts (named_before (known_of (take l.outer.count (entries_of l.scope))) (map name_items (take l.name-index l.names)) ts);
  weight : stack_weight (entries_of l.scope) l.more.items ≤ stack_weight (entries_of l.scope) l.fn.work.items + range_weight (name_weight (entries_of l.scope) l.outer.count) (map name_items (take l.name-index l.names));
}
