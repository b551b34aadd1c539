use Rattle.std.proofs.Common.{◌≡◌, ℕ, get_or, length, true, false}
use Rattle.bit_expr.specs.Arena.{arena}
use Rattle.bit_expr.specs.Formulas.{Const}
use Rattle.sop_lowering.specs.Lowering.{HasPair}
use Rattle.sop_lowering.specs.Through.{Reaches}
use Rattle.cover_rows.proofs.lowered.can_lower.Given as goal

abbrev pub invariant-loop-earlier : goal.invariant-loop-earlier
invariant-loop-earlier l = record {
  count : length l.paired.items ≡ l.earlier;
  paired : (k : ℕ) → get_or l.paired.items k false ≡ true → Reaches l.net (HasPair l.net) (get_or (arena l.net.exprs) k (Const false));
}
