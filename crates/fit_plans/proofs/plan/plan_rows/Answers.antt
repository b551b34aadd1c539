use Rattle.std.proofs.Common.{◌∙◌, ap, map, arith}
use Rattle.fit_plans.proofs.Common.{range_with_len, planned}
use Rattle.fit_plans.proofs.FuseSteps.{one_fuse}
use Rattle.fit_plans.proofs.plan.plan_rows.Goals as goal

pub loop-row-preserved : goal.loop-row-preserved
loop-row-preserved g c =
    record { rows = one_fuse (planned g.D.Device.table c.args.plan.now) c.loop-row.row c.loop-row.rows.items c.push.new.self.items c.planned.result c.loop-row.invariant.rows c.planned.ensures c.in_ok-push.ensures.items }

pub returns : goal.returns
returns g c =
    c.loop-row.invariant.rows
    ∙ ap (λ n. map (planned g.D.Device.table c.args.plan.now) (range_with_len 0 n)) (omega (arith, c.loop-row.auto.row-end, c.loop-row-test.false, c.rows-row-end.ensures))
