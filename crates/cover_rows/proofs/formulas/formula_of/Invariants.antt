use Rattle.std.proofs.Common.{◌<◌, length}
use Rattle.bit_expr.specs.Arena.{arena}
use Rattle.cover_rows.proofs.formulas.formula_of.Given as goal

abbrev pub invariant-loop-byte : goal.invariant-loop-byte
invariant-loop-byte l = l.bit.0 < length (arena l.exprs)
