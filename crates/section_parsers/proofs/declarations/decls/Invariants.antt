-- What was read before and what is still read is what is read from the start.
use Rattle.std.proofs.Common.{◌≡◌, [], ◌∷◌, length, map}
use Rattle.section_parsers.proofs.Common.{with_front, read_repeated, view_decl, among, decl_starts, read_decl}
use Rattle.section_parsers.proofs.declarations.decls.Given as goal

abbrev pub invariant-list : goal.invariant-list
invariant-list l = with_front (map view_decl l.list.items) (read_repeated (among decl_starts) (read_decl l.depth) l.rest) ≡ read_repeated (among decl_starts) (read_decl l.depth) l.tokens

abbrev pub decreases-list : goal.decreases-list
decreases-list l = length l.rest
