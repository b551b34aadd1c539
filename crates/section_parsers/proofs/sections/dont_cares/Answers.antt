-- Each turn reads one entry.
use Rattle.std.proofs.Common.{◌≡◌, [], ◌∷◌, ◌++◌, length, map, sym, ◌∙◌}
use Rattle.section_parsers.proofs.Common.{map_push, list_turn, read_repeated, view_section, among, read_dont_care_section, dont_care_section_shorter}
use Rattle.abel_grammar.specs.declared.terminal.Terminal.TheVariants as terminal
use Rattle.section_parsers.proofs.sections.dont_cares.Goals as goal

pub list-smaller : goal.list-smaller
list-smaller c = dont_care_section_shorter c.list.rest.now (view_section c.in_ok-next.next, c.in_ok-next.after.now) c.in_ok-next.ensures

pub list-preserved : goal.list-preserved
list-preserved c =
    let e : map view_section c.push.new.self.items ≡ map view_section c.list.list.items ++ view_section c.in_ok-next.next ∷ [] = rw c.in_ok-push.ensures.items (map_push _ c.list.list.items c.in_ok-next.next) in
    rw e (list_turn (read_dont_care_section) (among (terminal.DontCare ∷ [])) (dont_care_section_shorter) (map view_section c.list.list.items) c.list.rest.now (view_section c.in_ok-next.next, c.in_ok-next.after.now)
    (read_repeated (among (terminal.DontCare ∷ [])) read_dont_care_section c.args.tokens.now) (sym c.starts.ensures ∙ c.list-test.true) c.in_ok-next.ensures c.list.invariant)
