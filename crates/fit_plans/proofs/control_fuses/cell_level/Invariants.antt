use Rattle.std.proofs.Common.{◌<◌, ℕ}
use Rattle.fit_plans.proofs.Common.{IsNoCells}
use Rattle.fit_plans.proofs.control_fuses.cell_level.Given as goal

abbrev pub invariant-loop-index : goal.invariant-loop-index
invariant-loop-index g l = record { none : (k : ℕ) → k < l.index → IsNoCells g.D.Device.table l.fuse k }
