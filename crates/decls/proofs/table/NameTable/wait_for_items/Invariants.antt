-- The items so far.
use Rattle.std.proofs.Common.{◌++◌, take}
use Rattle.decls.proofs.Common.{Table, given_names, Shows, Progress}
use Rattle.decls.proofs.table.NameTable.wait_for_items.Given as goal

abbrev pub invariant-loop-item : goal.invariant-loop-item
invariant-loop-item l = (t : Table) (s : Progress) → Shows t l.fn.self s → Shows t l.self (record s { waiting = s.waiting ++ given_names (take l.item-index l.items) })
