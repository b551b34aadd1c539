use Rattle.std.proofs.Common.{◌∙◌, ap, length}
use Rattle.fit_plans.proofs.Common.{length-map-range_with_len, planned}
use Rattle.fit_plans.proofs.HeldRows.{is_planned}
use Rattle.fit_plans.proofs.plan.planned_fuses.Goals as goal

pub burn-requires-clause-rows : goal.burn-requires-clause-rows
burn-requires-clause-rows g c =
    ap length (c.deref.ensures.value ∙ c.in_ok-rows.ensures) ∙ length-map-range_with_len (planned g.D.Device.table c.args.plan.now) 0 g.D.Device.table.rows

pub returns : goal.returns
returns g c =
    is_planned g.D.Device.table g.D.Device.sound c.args.plan.now c.deref.result.now c.args.control.now c.in_ok-fuses.fuses.items (c.deref.ensures.value ∙ c.in_ok-rows.ensures) c.in_ok-fuses.ensures
