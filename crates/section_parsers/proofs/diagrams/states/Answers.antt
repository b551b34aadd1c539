-- Each turn reads one entry.
use Rattle.std.proofs.Common.{◌≡◌, [], ◌∷◌, ◌++◌, length, map, sym, ◌∙◌}
use Rattle.section_parsers.proofs.Common.{map_push, list_turn, read_repeated, view_state, among, read_state, state_shorter}
use Rattle.abel_grammar.specs.declared.terminal.Terminal.TheVariants as terminal
use Rattle.section_parsers.proofs.diagrams.states.Goals as goal

pub list-smaller : goal.list-smaller
list-smaller c = state_shorter c.args.depth c.list.rest.now (view_state c.in_ok-next.next, c.in_ok-next.after.now) c.in_ok-next.ensures

pub list-preserved : goal.list-preserved
list-preserved c =
    let e : map view_state c.push.new.self.items ≡ map view_state c.list.list.items ++ view_state c.in_ok-next.next ∷ [] = rw c.in_ok-push.ensures.items (map_push _ c.list.list.items c.in_ok-next.next) in
    rw e (list_turn (read_state c.args.depth) (among (terminal.State ∷ [])) (state_shorter c.args.depth) (map view_state c.list.list.items) c.list.rest.now (view_state c.in_ok-next.next, c.in_ok-next.after.now)
    (read_repeated (among (terminal.State ∷ [])) (read_state c.args.depth) c.args.tokens.now) (sym c.starts.ensures ∙ c.list-test.true) c.in_ok-next.ensures c.list.invariant)
