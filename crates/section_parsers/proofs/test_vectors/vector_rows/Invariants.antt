-- What was read before and what is still read is what is read from the start.
use Rattle.std.proofs.Common.{◌≡◌, [], ◌∷◌, length, map}
use Rattle.section_parsers.proofs.Common.{with_front, view_vector_row, among, expr_starts, read_vector_row, read_vector_rows}
use Rattle.section_parsers.proofs.test_vectors.vector_rows.Given as goal

abbrev pub invariant-list : goal.invariant-list
invariant-list l = with_front (map view_vector_row l.list.items) (read_vector_rows l.depth l.rest) ≡ read_vector_rows l.depth l.tokens

abbrev pub decreases-list : goal.decreases-list
decreases-list l = length l.rest
