-- The words of the pieces so far.
use Rattle.std.proofs.Common.{map}
use Rattle.decls.proofs.Common.{Tells, lower_words}
use Rattle.decls.proofs.strings.words_in.Given as goal

abbrev pub invariant-loop-piece : goal.invariant-loop-piece
invariant-loop-piece l = Tells l.words (lower_words (map (λ p. p.now) l.yielded))
