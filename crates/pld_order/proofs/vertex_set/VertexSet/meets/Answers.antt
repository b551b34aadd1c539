use Rattle.std.proofs.Common.{not, ap, sym, eqb-true, eq-eqb}
use Rattle.pld_order.proofs.Common.{and_lt, not-false}
use Rattle.pld_order.proofs.Words.{apart, low_apart, high_apart}
use Rattle.pld_order.proofs.vertex_set.VertexSet.meets.Goals as goal

pub returns-then-self-other-ne0 : goal.returns-then-self-other-ne0
returns-then-self-other-ne0 c =
    rw (sym c.self.view_is, sym c.other.view_is) (
      λ none. absurd (c.if-self-other-ne0.true (eqb-true _ _ (not-false _ none))),
      λ all. absurd (c.if-self-other-ne0.true (low_apart c.self.inside.low c.self.inside.high c.other.inside.low c.other.inside.high (and_lt 128 c.self.inside.low c.other.inside.low c.self.invariant.0 c.other.invariant.0) all)),
    )

pub returns-else-self-other-ne0 : goal.returns-else-self-other-ne0
returns-else-self-other-ne0 c =
    rw (sym c.self.view_is, sym c.other.view_is) (
      λ none. apart c.self.inside.low c.self.inside.high c.other.inside.low c.other.inside.high c.if-self-other-ne0.false (eqb-true _ _ (not-false _ none)),
      λ all. ap not (eq-eqb _ _ (high_apart c.self.inside.low c.self.inside.high c.other.inside.low c.other.inside.high (and_lt 128 c.self.inside.high c.other.inside.high c.self.invariant.1 c.other.invariant.1) all)),
    )
