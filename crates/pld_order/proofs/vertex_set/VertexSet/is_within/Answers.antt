use Rattle.std.proofs.Common.{sym, eqb-true, eq-eqb}
use Rattle.pld_order.proofs.Common.{and_lt}
use Rattle.pld_order.proofs.Words.{within, low_within, high_within}
use Rattle.pld_order.proofs.vertex_set.VertexSet.is_within.Goals as goal

pub returns-then-self-other : goal.returns-then-self-other
returns-then-self-other c =
    rw (sym c.self.view_is, sym c.other.view_is) (
      λ same. within c.self.inside.low c.self.inside.high c.other.inside.low c.other.inside.high c.if-self-other.true (eqb-true _ _ same),
      λ all. eq-eqb _ _ (high_within c.self.inside.low c.self.inside.high c.other.inside.low c.other.inside.high c.self.invariant.1 (and_lt 128 c.self.inside.high c.other.inside.high c.self.invariant.1 c.other.invariant.1) all),
    )

pub returns-else-self-other : goal.returns-else-self-other
returns-else-self-other c =
    rw (sym c.self.view_is, sym c.other.view_is) (
      λ same. absurd (c.if-self-other.false (eqb-true _ _ same)),
      λ all. absurd (c.if-self-other.false (low_within c.self.inside.low c.self.inside.high c.other.inside.low c.other.inside.high c.self.invariant.0 (and_lt 128 c.self.inside.low c.other.inside.low c.self.invariant.0 c.other.invariant.0) all)),
    )
