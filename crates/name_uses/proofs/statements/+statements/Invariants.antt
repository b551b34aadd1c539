-- The parts of those so far follow what was there.
use Rattle.std.proofs.Common.{◌≡◌, ◌++◌, map, take}
use Rattle.name_uses.proofs.Common.{flat_map, view_stmt, parts_in_statement, view_part}
use Rattle.name_uses.proofs.statements.+statements.Given as goal

abbrev pub invariant-put_stmts-loop-stmt : goal.invariant-put_stmts-loop-stmt
invariant-put_stmts-loop-stmt l = map view_part l.parts.items ≡ map view_part l.fn.parts.items ++ flat_map parts_in_statement (map view_stmt (take l.stmt-index l.list))
