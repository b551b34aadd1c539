use Rattle.std.proofs.Common.{◌++◌, true, ap, sym, ◌∙◌, subst, arith}
use Rattle.pld_order.proofs.Common.{bits, members, IsWith}
use Rattle.pld_order.proofs.Words.{set_low, set_high, set_on}
use Rattle.pld_order.proofs.vertex_set.VertexSet.insert.Goals as goal

pub returns-then-vertex-lt128 : goal.returns-then-vertex-lt128
returns-then-vertex-lt128 c =
    rw (sym c.self.view_is)
    (subst (IsWith (members c.self.inside.low c.self.inside.high) c.args.vertex)
    (set_low c.self.inside.low c.self.inside.high c.args.vertex true c.if-vertex-lt128.true ∙ sym (ap (λ xs. xs ++ bits 128 c.self.inside.high) c.with_value-self-inside.ensures))
    (set_on c.self.inside.low c.self.inside.high c.args.vertex (omega arith)))

pub returns-else-vertex-lt128 : goal.returns-else-vertex-lt128
returns-else-vertex-lt128 c =
    rw (sym c.self.view_is)
    (subst (IsWith (members c.self.inside.low c.self.inside.high) c.args.vertex)
    (set_high c.self.inside.low c.self.inside.high c.args.vertex true c.if-vertex-lt128.false ∙ sym (ap (λ xs. bits 128 c.self.inside.low ++ xs) c.with_value-self-inside-else-vertex-lt128.ensures))
    (set_on c.self.inside.low c.self.inside.high c.args.vertex (omega arith)))
