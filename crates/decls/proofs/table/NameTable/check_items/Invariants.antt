-- The items so far.
use Rattle.std.proofs.Common.{take}
use Rattle.decls.proofs.Common.{Table, items_refused, refuse_all, Shows, Progress}
use Rattle.decls.proofs.table.NameTable.check_items.Given as goal

abbrev pub invariant-loop-item : goal.invariant-loop-item
invariant-loop-item l = (t : Table) (s : Progress) → Shows t l.fn.self s → Shows t l.self (refuse_all (items_refused s.entries (take l.item-index l.items)) s)
