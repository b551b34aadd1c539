-- What was read before and what is still read is what is read from the start; and how deep calls go.
use Rattle.std.proofs.Common.{◌≡◌, length, map, ◌+◌, ◌*◌}
use Rattle.section_parsers.proofs.Common.{with_front, view_choice, read_expr, read_choices, read_arm}
use Rattle.section_parsers.proofs.transitions.+arm.Given as goal

abbrev pub decreases-arm : goal.decreases-arm
decreases-arm l = 4 * l.depth

abbrev pub decreases-else_arm : goal.decreases-else_arm
decreases-else_arm l = 4 * l.depth + 1

abbrev pub decreases-if_arm : goal.decreases-if_arm
decreases-if_arm l = 4 * l.depth + 2

abbrev pub decreases-choice : goal.decreases-choice
decreases-choice l = 4 * l.depth + 1

abbrev pub decreases-choices : goal.decreases-choices
decreases-choices l = 4 * l.depth + 2

abbrev pub decreases-case_arm : goal.decreases-case_arm
decreases-case_arm l = 4 * l.depth + 3

abbrev pub invariant-choices-list : goal.invariant-choices-list
invariant-choices-list l = with_front (map view_choice l.list.items) (read_choices (read_expr l.depth) (read_arm l.depth) l.rest) ≡ read_choices (read_expr l.depth) (read_arm l.depth) l.tokens

abbrev pub decreases-choices-list : goal.decreases-choices-list
decreases-choices-list l = length l.rest
