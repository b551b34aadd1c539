use Rattle.std.proofs.Common.{◌<◌, length}
use Rattle.bit_expr.specs.Arena.{arena}
use Rattle.cover_rows.proofs.lowered.deep.Given as goal

abbrev pub invariant-loop-count : goal.invariant-loop-count
invariant-loop-count l = record {
  bit : l.bit.0 < length (arena l.exprs);
  leaf : l.leaf.0 < length (arena l.exprs);
}
