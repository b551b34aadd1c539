-- All so far are after the first refusal.
use Rattle.std.proofs.Common.{◌≡◌, true, take}
use Rattle.decls.proofs.Common.{items_behind}
use Rattle.decls.proofs.table.NameTable.items_behind.Given as goal

abbrev pub invariant-loop-item : goal.invariant-loop-item
invariant-loop-item l = items_behind l.self.fault (take l.item-index l.items) ≡ true
