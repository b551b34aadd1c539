-- So many digits are there, and the number without them.
use Rattle.std.proofs.Common.{◌≡◌}
use Rattle.expr_bits.proofs.Common.{digit_ids}
use Rattle.expr_bits.proofs.PositionWords.{halved}
use Rattle.expr_bits.proofs.positions.digit_word.Given as goal

abbrev pub invariant-loop-index : goal.invariant-loop-index
invariant-loop-index l =
    record {
      ids : l.ids.items ≡ digit_ids l.index l.number;
      rest : l.rest ≡ halved l.index l.number;
    }
