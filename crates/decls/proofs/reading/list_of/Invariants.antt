-- The names so far and those that are left.
use Rattle.std.proofs.Common.{◌≡◌, ◌++◌, map}
use Rattle.decls.proofs.Common.{view_declared, view_known}
use Rattle.decls.proofs.reading.list_of.Given as goal

abbrev pub invariant-loop-row : goal.invariant-loop-row
invariant-loop-row l = map view_declared l.list.items ++ map view_known l.row-iterator ≡ map view_known l.fn.names.entries
