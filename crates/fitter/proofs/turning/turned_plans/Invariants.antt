-- The plans so far are turned.
use Rattle.std.proofs.Common.{take}
use Rattle.fitter.proofs.Common.{AreTurned}
use Rattle.fitter.proofs.turning.turned_plans.Given as goal

abbrev pub invariant-loop-plan : goal.invariant-loop-plan
invariant-loop-plan g l = record {
  so_far : AreTurned g.D.Device.table l.mask (take l.plan-index l.plans) l.list.items;
}
