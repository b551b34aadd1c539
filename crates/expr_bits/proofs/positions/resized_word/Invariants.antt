-- So many positions are there.
use Rattle.std.proofs.Common.{◌≡◌}
use Rattle.expr_bits.proofs.Common.{resized_ids}
use Rattle.expr_bits.proofs.positions.resized_word.Given as goal

abbrev pub invariant-loop-index : goal.invariant-loop-index
invariant-loop-index l = l.ids.items ≡ resized_ids l.index l.word
