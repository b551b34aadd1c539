-- Each turn reads one entry.
use Rattle.std.proofs.Common.{◌≡◌, [], ◌∷◌, ◌++◌, map, sym, ◌∙◌}
use Rattle.section_parsers.proofs.Common.{map_push, list_turn, view_choice, among, expr_starts, read_expr, read_choice, read_choices, read_arm, choice_shorter}
use Rattle.section_parsers.proofs.transitions.+arm.Goals as goal

pub choices-list-smaller : goal.choices-list-smaller
choices-list-smaller t c = choice_shorter c.args.depth c.list.rest.now (view_choice c.in_ok-next.next, c.in_ok-next.after.now) c.in_ok-next.ensures

pub choices-list-preserved : goal.choices-list-preserved
choices-list-preserved t c =
    let e : map view_choice c.push.new.self.items ≡ map view_choice c.list.list.items ++ view_choice c.in_ok-next.next ∷ [] = rw c.in_ok-push.ensures.items (map_push _ c.list.list.items c.in_ok-next.next) in
    rw e (list_turn (read_choice (read_expr c.args.depth) (read_arm c.args.depth)) (among expr_starts) (choice_shorter c.args.depth) (map view_choice c.list.list.items) c.list.rest.now (view_choice c.in_ok-next.next, c.in_ok-next.after.now)
    (read_choices (read_expr c.args.depth) (read_arm c.args.depth) c.args.tokens.now) (sym c.starts.ensures ∙ c.list-test.true) c.in_ok-next.ensures c.list.invariant)
