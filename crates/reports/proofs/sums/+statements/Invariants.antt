-- The sums of the statements so far follow what was there.
use Rattle.std.proofs.Common.{◌≡◌, ◌++◌, map, take}
use Rattle.std.specs.List.{flat_map}
use Rattle.abel_tree.specs.Entries.{entries_of}
use Rattle.abel_tree.specs.View.{view_stmt}
use Rattle.reports.specs.Warnings.{sums_in_statement}
use Rattle.reports.proofs.sums.+statements.Given as goal

abbrev pub invariant-find_in_statements-loop-statement : goal.invariant-find_in_statements-loop-statement
invariant-find_in_statements-loop-statement l = l.found ≡ l.fn.found ++ flat_map (sums_in_statement (entries_of l.names)) (map view_stmt (take l.statement-index l.statements))
