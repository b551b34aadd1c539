-- Each turn reads one list.
use Rattle.std.proofs.Common.{◌≡◌, [], ◌∷◌, ◌++◌, length, map, sym, ◌∙◌}
use Rattle.section_parsers.proofs.Common.{map-append, read_repeated, lists_turn, view_section, among, proper_starts, read_section_group, read_sections, section_group_shorter}
use Rattle.section_parsers.proofs.sections.sections.Goals as goal

pub list-smaller : goal.list-smaller
list-smaller c = section_group_shorter c.args.depth c.list.rest.now (map view_section c.in_ok-more.more.items, c.in_ok-more.after.now) c.in_ok-more.ensures

pub list-preserved : goal.list-preserved
list-preserved c =
    let e : map view_section c.append.new.self.items ≡ map view_section c.list.list.items ++ map view_section c.in_ok-more.more.items = rw c.in_ok-append.ensures.items (map-append _ c.list.list.items c.in_ok-more.more.items) in
    rw e (lists_turn (read_section_group c.args.depth) (among proper_starts) (section_group_shorter c.args.depth) (map view_section c.list.list.items) c.list.rest.now (map view_section c.in_ok-more.more.items, c.in_ok-more.after.now)
    (read_sections c.args.depth c.args.tokens.now) (sym c.starts.ensures ∙ c.list-test.true) c.in_ok-more.ensures c.list.invariant)
