-- What was read before and what is still read is what is read from the start.
use Rattle.std.proofs.Common.{◌≡◌, [], ◌∷◌, length, map}
use Rattle.section_parsers.proofs.Common.{read_made, ◌then_read◌, read_times, with_front, view, read_one, read_expr, value_of}
use Rattle.abel_grammar.specs.declared.terminal.Terminal.TheVariants as terminal
use Rattle.section_parsers.proofs.declarations.values.Given as goal

abbrev pub invariant-list : goal.invariant-list
invariant-list l =
    with_front (map view l.list.items) (read_times l.left (read_made value_of (read_one terminal.Comma then_read read_expr l.depth)) l.rest)
    ≡ read_times l.count (read_made value_of (read_one terminal.Comma then_read read_expr l.depth)) l.tokens

abbrev pub decreases-list : goal.decreases-list
decreases-list l = l.left
