-- What was read before and what is still read is what is read from the start.
use Rattle.std.proofs.Common.{◌≡◌, [], ◌∷◌, length, map}
use Rattle.section_parsers.proofs.Common.{with_front, read_repeated, view_section, among, read_dont_care_section}
use Rattle.abel_grammar.specs.declared.terminal.Terminal.TheVariants as terminal
use Rattle.section_parsers.proofs.sections.dont_cares.Given as goal

abbrev pub invariant-list : goal.invariant-list
invariant-list l = with_front (map view_section l.list.items) (read_repeated (among (terminal.DontCare ∷ [])) read_dont_care_section l.rest) ≡ read_repeated (among (terminal.DontCare ∷ [])) read_dont_care_section l.tokens

abbrev pub decreases-list : goal.decreases-list
decreases-list l = length l.rest
