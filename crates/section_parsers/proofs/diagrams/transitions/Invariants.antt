-- What was read before and what is still read is what is read from the start.
use Rattle.std.proofs.Common.{◌≡◌, [], ◌∷◌, length, map}
use Rattle.section_parsers.proofs.Common.{with_front, read_repeated, view_arm, among, trans_starts, read_trans}
use Rattle.section_parsers.proofs.diagrams.transitions.Given as goal

abbrev pub invariant-list : goal.invariant-list
invariant-list l = with_front (map view_arm l.list.items) (read_repeated (among trans_starts) (read_trans l.depth) l.rest) ≡ read_repeated (among trans_starts) (read_trans l.depth) l.tokens

abbrev pub decreases-list : goal.decreases-list
decreases-list l = length l.rest
