-- Each turn reads one entry.
use Rattle.std.proofs.Common.{◌≡◌, [], ◌∷◌, ◌++◌, map, sym, ◌∙◌}
use Rattle.section_parsers.proofs.Common.{map_push, list_turn, view_stmt, among, stmt_starts, read_stmts, read_stmt, stmt_shorter}
use Rattle.section_parsers.proofs.statements.+stmt.Goals as goal

pub stmts-list-smaller : goal.stmts-list-smaller
stmts-list-smaller t c = stmt_shorter c.args.depth c.list.rest.now (view_stmt c.in_ok-next.next, c.in_ok-next.after.now) c.in_ok-next.ensures

pub stmts-list-preserved : goal.stmts-list-preserved
stmts-list-preserved t c =
    let e : map view_stmt c.push.new.self.items ≡ map view_stmt c.list.list.items ++ view_stmt c.in_ok-next.next ∷ [] = rw c.in_ok-push.ensures.items (map_push _ c.list.list.items c.in_ok-next.next) in
    rw e (list_turn (read_stmt c.args.depth) (among stmt_starts) (stmt_shorter c.args.depth) (map view_stmt c.list.list.items) c.list.rest.now (view_stmt c.in_ok-next.next, c.in_ok-next.after.now)
    (read_stmts (read_stmt c.args.depth) c.args.tokens.now) (sym c.starts.ensures ∙ c.list-test.true) c.in_ok-next.ensures c.list.invariant)
