-- What was read before and what is still read is what is read from the start.
use Rattle.std.proofs.Common.{◌≡◌, [], ◌∷◌, length, map}
use Rattle.section_parsers.proofs.Common.{with_front, read_repeated, view_state, among, read_state}
use Rattle.abel_grammar.specs.declared.terminal.Terminal.TheVariants as terminal
use Rattle.section_parsers.proofs.diagrams.states.Given as goal

abbrev pub invariant-list : goal.invariant-list
invariant-list l = with_front (map view_state l.list.items) (read_repeated (among (terminal.State ∷ [])) (read_state l.depth) l.rest) ≡ read_repeated (among (terminal.State ∷ [])) (read_state l.depth) l.tokens

abbrev pub decreases-list : goal.decreases-list
decreases-list l = length l.rest
