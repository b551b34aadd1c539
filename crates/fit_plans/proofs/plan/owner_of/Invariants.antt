use Rattle.std.proofs.Common.{◌≡◌, drop}
use Rattle.fit_plans.proofs.Common.{owner, owner_from}
use Rattle.fit_plans.proofs.plan.owner_of.Given as goal

abbrev pub invariant-loop-index : goal.invariant-loop-index
invariant-loop-index g l = record {
  rest : owner_from g.D.Device.table l.index (drop l.index g.D.Device.table.cells) l.row ≡ owner g.D.Device.table l.row;
}
