-- Each turn reads one entry.
use Rattle.std.proofs.Common.{◌≡◌, [], ◌∷◌, ◌++◌, length, map, sym, ◌∙◌}
use Rattle.section_parsers.proofs.Common.{map_push, list_turn, read_repeated, view_arm, among, trans_starts, read_trans, trans_shorter}
use Rattle.section_parsers.proofs.diagrams.transitions.Goals as goal

pub list-smaller : goal.list-smaller
list-smaller c = trans_shorter c.args.depth c.list.rest.now (view_arm c.in_ok-next.next, c.in_ok-next.after.now) c.in_ok-next.ensures

pub list-preserved : goal.list-preserved
list-preserved c =
    let e : map view_arm c.push.new.self.items ≡ map view_arm c.list.list.items ++ view_arm c.in_ok-next.next ∷ [] = rw c.in_ok-push.ensures.items (map_push _ c.list.list.items c.in_ok-next.next) in
    rw e (list_turn (read_trans c.args.depth) (among trans_starts) (trans_shorter c.args.depth) (map view_arm c.list.list.items) c.list.rest.now (view_arm c.in_ok-next.next, c.in_ok-next.after.now)
    (read_repeated (among trans_starts) (read_trans c.args.depth) c.args.tokens.now) (sym c.starts.ensures ∙ c.list-test.true) c.in_ok-next.ensures c.list.invariant)
