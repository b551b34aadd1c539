-- What was read before and what is still read is what is read from the start.
use Rattle.std.proofs.Common.{◌≡◌, [], ◌∷◌, length, map}
use Rattle.section_parsers.proofs.Common.{read_repeated, with_lists, among, option_words, read_option, read_options}
use Rattle.section_parsers.proofs.module.options.Given as goal

abbrev pub invariant-list : goal.invariant-list
invariant-list l = with_lists (l.list.items) (read_repeated (among option_words) (read_option) l.rest) ≡ read_options l.tokens

abbrev pub decreases-list : goal.decreases-list
decreases-list l = length l.rest
