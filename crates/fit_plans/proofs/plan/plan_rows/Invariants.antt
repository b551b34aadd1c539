use Rattle.std.proofs.Common.{◌≡◌, map}
use Rattle.fit_plans.proofs.Common.{range_with_len, planned}
use Rattle.fit_plans.proofs.plan.plan_rows.Given as goal

abbrev pub invariant-loop-row : goal.invariant-loop-row
invariant-loop-row g l = record { rows : l.rows.items ≡ map (planned g.D.Device.table l.plan) (range_with_len 0 l.row) }
