use Rattle.std.proofs.Common.{◌-◌, sym, ◌∙◌, arith}
use Rattle.pld_order.proofs.Common.{shr_and_one, is_on-bits}
use Rattle.pld_order.proofs.Words.{on_low, on_high}
use Rattle.pld_order.proofs.vertex_set.VertexSet.contains.Goals as goal

pub returns-then-vertex-lt128 : goal.returns-then-vertex-lt128
returns-then-vertex-lt128 c =
    rw (sym c.self.view_is, shr_and_one)
    (sym (is_on-bits 128 c.self.inside.low c.args.vertex c.if-vertex-lt128.true)
    ∙ sym (on_low c.self.inside.low c.self.inside.high c.args.vertex c.if-vertex-lt128.true))

pub returns-else-vertex-lt128 : goal.returns-else-vertex-lt128
returns-else-vertex-lt128 c =
    rw (sym c.self.view_is, shr_and_one)
    (sym (is_on-bits 128 c.self.inside.high (c.args.vertex - 128) (omega arith))
    ∙ sym (on_high c.self.inside.low c.self.inside.high c.args.vertex c.if-vertex-lt128.false))
