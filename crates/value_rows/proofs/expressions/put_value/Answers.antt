-- The positions lie in the arena.
use Rattle.std.proofs.Common.{length, sym, subst}
use Rattle.bit_expr.specs.Arena.{arena}
use Rattle.set_expr.specs.Answer.{AreIn}
use Rattle.value_rows.proofs.expressions.put_value.Goals as goal

pub number_at-number-requires : goal.number_at-number-requires
number_at-number-requires c = subst (AreIn (length (arena c.bits.new.exprs))) (sym c.as_slice.ensures) c.in-Ok-bits.ensures.shows.inside
