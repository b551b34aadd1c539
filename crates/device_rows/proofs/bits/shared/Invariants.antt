use Rattle.std.specs.Prelude.{◌<◌, length}
use Rattle.bit_expr.specs.Arena.{arena}
use Rattle.device_rows.proofs.bits.shared.Given as goal

abbrev pub invariant-loop-count : goal.invariant-loop-count
invariant-loop-count l = l.bit.0 < length (arena l.exprs)
