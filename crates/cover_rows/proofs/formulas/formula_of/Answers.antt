use Rattle.std.proofs.Common.{arith}
use Rattle.cover_rows.proofs.formulas.formula_of.Goals as goal

pub add-requires : goal.add-requires
add-requires c =
    c.joined.ensures _ (omega (arith, c.loop-byte.invariant, c.in_ok-next-in_default.ensures.grows)) c.in_ok-next-in_default.ensures.inside
