-- The items so far.
use Rattle.std.proofs.Common.{take}
use Rattle.decls.proofs.Common.{Table, ranges_refused, refuse_all, Shows, Progress}
use Rattle.decls.proofs.table.NameTable.refuse_ranges.Given as goal

abbrev pub invariant-loop-item : goal.invariant-loop-item
invariant-loop-item l = (t : Table) (s : Progress) → Shows t l.fn.self s → Shows t l.self (refuse_all (ranges_refused (take l.item-index l.items)) s)
