-- What was read before and what is still read is what is read from the start; and how deep calls go.
use Rattle.std.proofs.Common.{◌≡◌, length, map, ◌+◌, ◌*◌}
use Rattle.section_parsers.proofs.Common.{with_front, view_stmt, read_stmts, read_stmt}
use Rattle.section_parsers.proofs.statements.+stmt.Given as goal

abbrev pub decreases-plain : goal.decreases-plain
decreases-plain l = 4 * l.depth

abbrev pub decreases-statement : goal.decreases-statement
decreases-statement l = 4 * l.depth + 1

abbrev pub decreases-stmts : goal.decreases-stmts
decreases-stmts l = 4 * l.depth + 2

abbrev pub decreases-else_part : goal.decreases-else_part
decreases-else_part l = 4 * l.depth + 2

abbrev pub decreases-when : goal.decreases-when
decreases-when l = 4 * l.depth + 3

abbrev pub decreases-group : goal.decreases-group
decreases-group l = 4 * l.depth + 3

abbrev pub invariant-stmts-list : goal.invariant-stmts-list
invariant-stmts-list l = with_front (map view_stmt l.list.items) (read_stmts (read_stmt l.depth) l.rest) ≡ read_stmts (read_stmt l.depth) l.tokens

abbrev pub decreases-stmts-list : goal.decreases-stmts-list
decreases-stmts-list l = length l.rest
