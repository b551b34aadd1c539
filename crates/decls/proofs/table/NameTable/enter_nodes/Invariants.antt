-- The items so far.
use Rattle.std.proofs.Common.{fold, map, take}
use Rattle.decls.proofs.Common.{Table, node_step, view_given, view_said, Shows, Progress}
use Rattle.decls.proofs.table.NameTable.enter_nodes.Given as goal

abbrev pub invariant-loop-given : goal.invariant-loop-given
invariant-loop-given l = (t : Table) (s : Progress) → Shows t l.fn.self s → Shows t l.self (fold (node_step (view_said l.said)) s (map view_given (take l.given-index l.names)))
