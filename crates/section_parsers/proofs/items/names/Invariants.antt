-- What was read before and what is still read is what is read from the start.
use Rattle.std.proofs.Common.{◌≡◌, length}
use Rattle.section_parsers.proofs.Common.{with_front, read_names}
use Rattle.section_parsers.proofs.items.names.Given as goal

abbrev pub invariant-list : goal.invariant-list
invariant-list l = with_front l.list.items (read_names l.rest) ≡ read_names l.tokens

abbrev pub decreases-list : goal.decreases-list
decreases-list l = length l.rest
