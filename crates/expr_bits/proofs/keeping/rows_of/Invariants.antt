-- The rows so far are those of the first names, one each.
use Rattle.std.proofs.Common.{◌≡◌, length}
use Rattle.expr_bits.proofs.Common.{entries_of, context_for, AreRows}
use Rattle.expr_bits.proofs.keeping.rows_of.Given as goal

abbrev pub invariant-loop-declared : goal.invariant-loop-declared
invariant-loop-declared g l =
    record {
      rows : AreRows (entries_of l.scope) (context_for g.D.Device.table l.scope) 0 l.rows.items;
      count : length l.rows.items ≡ l.declared-index;
    }
