-- What is kept of the first positions.
use Rattle.std.proofs.Common.{◌≡◌, take}
use Rattle.expr_bits.proofs.Common.{kept_ids}
use Rattle.expr_bits.proofs.positions.kept_word.Given as goal

abbrev pub invariant-loop-index : goal.invariant-loop-index
invariant-loop-index l = l.ids.items ≡ kept_ids (take l.index l.dropped) (take l.index l.word)
