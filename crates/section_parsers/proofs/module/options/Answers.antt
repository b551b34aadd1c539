-- Each turn reads one list.
use Rattle.std.proofs.Common.{◌≡◌, [], ◌∷◌, ◌++◌, length, map, sym, ◌∙◌}
use Rattle.section_parsers.proofs.Common.{map-append, read_repeated, lists_turn, among, option_words, read_option, read_options, option_shorter}
use Rattle.section_parsers.proofs.module.options.Goals as goal

pub list-smaller : goal.list-smaller
list-smaller c = option_shorter c.list.rest.now (c.in_ok-more.more.items, c.in_ok-more.after.now) c.in_ok-more.ensures

pub list-preserved : goal.list-preserved
list-preserved c =
    rw c.in_ok-append.ensures.items (lists_turn (read_option) (among option_words) (option_shorter) (c.list.list.items) c.list.rest.now (c.in_ok-more.more.items, c.in_ok-more.after.now)
    (read_options c.args.tokens.now) (sym c.starts.ensures ∙ c.list-test.true) c.in_ok-more.ensures c.list.invariant)
