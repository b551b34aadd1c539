use Rattle.std.proofs.Common.{◌≡◌, false, subst, sym, ◌∙◌, arith, inl, inr}
use Rattle.std.proofs.lemmas.Bool.{cases_lt}
use Rattle.device_logic.proofs.Runs.{any_at, any_none}
use Rattle.page_model.specs.Idle.{is_live_row}
use Rattle.page_model.proofs.idle.is_some_live.Goals as goal

pub loop-row-preserved : goal.loop-row-preserved
loop-row-preserved g c k first low =
    elim (cases_lt k c.loop-row.row) [
      | inl less ↦ c.loop-row.invariant k first less
      | inr more ↦
          let same : c.loop-row.row ≡ k = omega (arith, low, more) in
          subst (λ n. is_live_row g.D.Device.table c.args.array.now n ≡ false) same (sym c.is_live.ensures.live ∙ c.if-is_live.false)
    ]

pub returns-then-is_live : goal.returns-then-is_live
returns-then-is_live g c =
    sym
    (any_at (is_live_row g.D.Device.table c.args.array.now) c.args.first c.args.room c.loop-row.row (omega arith) (omega arith) (sym c.is_live.ensures.live ∙ c.if-is_live.true))

pub returns : goal.returns
returns g c =
    sym (any_none (is_live_row g.D.Device.table c.args.array.now) c.args.first c.args.room (λ k low high. c.loop-row.invariant k low (omega (arith, high))))
