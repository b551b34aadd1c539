-- The literals from here on are left.
use Rattle.std.proofs.Common.{true, drop, length, ◌<◌}
use Rattle.truth_tables.proofs.Common.{arena, formula_at, AreIn, Const, literals}
use Rattle.truth_tables.proofs.ProductLaws.{LiteralsLeft}
use Rattle.truth_tables.proofs.inputs.row_product.Given as goal

abbrev pub invariant-loop-index : goal.invariant-loop-index
invariant-loop-index l =
    record {
      inside : l.found.0 < length (arena l.exprs);
      positions : AreIn (length (arena l.exprs)) l.header;
      left : LiteralsLeft l.fn.exprs l.exprs l.unit (literals (arena l.fn.exprs) (Const true) l.header l.levels)
          (literals (arena l.exprs) (formula_at (arena l.exprs) l.found) (drop l.index l.header) (drop l.index l.levels));
    }
