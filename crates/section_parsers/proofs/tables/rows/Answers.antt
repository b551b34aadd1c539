-- Each turn reads one entry.
use Rattle.std.proofs.Common.{◌≡◌, [], ◌∷◌, ◌++◌, length, map, sym, ◌∙◌}
use Rattle.section_parsers.proofs.Common.{map_push, list_turn, view_row, among, expr_starts, read_row, read_rows, row_shorter}
use Rattle.section_parsers.proofs.tables.rows.Goals as goal

pub list-smaller : goal.list-smaller
list-smaller c = row_shorter c.args.depth c.list.rest.now (view_row c.in_ok-next.next, c.in_ok-next.after.now) c.in_ok-next.ensures

pub list-preserved : goal.list-preserved
list-preserved c =
    let e : map view_row c.push.new.self.items ≡ map view_row c.list.list.items ++ view_row c.in_ok-next.next ∷ [] = rw c.in_ok-push.ensures.items (map_push _ c.list.list.items c.in_ok-next.next) in
    rw e (list_turn (read_row c.args.depth) (among expr_starts) (row_shorter c.args.depth) (map view_row c.list.list.items) c.list.rest.now (view_row c.in_ok-next.next, c.in_ok-next.after.now)
    (read_rows c.args.depth c.args.tokens.now) (sym c.starts.ensures ∙ c.list-test.true) c.in_ok-next.ensures c.list.invariant)
