-- What was read before and what is still read is what is read from the start.
use Rattle.std.proofs.Common.{◌≡◌, [], ◌∷◌, length, map}
use Rattle.section_parsers.proofs.Common.{read_repeated, with_lists, view_section, among, proper_starts, read_section_group, read_sections}
use Rattle.section_parsers.proofs.sections.sections.Given as goal

abbrev pub invariant-list : goal.invariant-list
invariant-list l = with_lists (map view_section l.list.items) (read_repeated (among proper_starts) (read_section_group l.depth) l.rest) ≡ read_sections l.depth l.tokens

abbrev pub decreases-list : goal.decreases-list
decreases-list l = length l.rest
