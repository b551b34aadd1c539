-- What was read before and what is still read is what is read from the start.
use Rattle.std.proofs.Common.{◌≡◌, length}
use Rattle.section_parsers.proofs.Common.{with_front, read_texts}
use Rattle.section_parsers.proofs.items.texts.Given as goal

abbrev pub invariant-list : goal.invariant-list
invariant-list l = with_front l.list.items (read_texts l.rest) ≡ read_texts l.tokens

abbrev pub decreases-list : goal.decreases-list
decreases-list l = length l.rest
