use Rattle.std.proofs.Common.{◌-◌, arith, inl, inr, ◌∙◌}
use Rattle.pld_order.proofs.Common.{cases_lt, is_on-zero}
use Rattle.pld_order.proofs.Words.{on_low, on_high, on_past}
use Rattle.pld_order.proofs.vertex_set.VertexSet.new.Goals as goal

pub returns : goal.returns
returns c v =
    elim (cases_lt v 128) [
      | inl low ↦ on_low 0 0 v low ∙ is_on-zero 128 v low
      | inr more ↦ elim (cases_lt v 256) [
        | inl high ↦ on_high 0 0 v more ∙ is_on-zero 128 (v - 128) (omega (arith, more, high))
        | inr past ↦ on_past 0 0 v past
      ]
    ]
