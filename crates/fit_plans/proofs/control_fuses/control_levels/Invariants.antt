use Rattle.std.proofs.Common.{◌≡◌, ◌<◌, ◌≤◌, ◌*◌, ℕ, length}
use Rattle.fit_plans.proofs.Common.{is_on, IsControlLevel}
use Rattle.fit_plans.proofs.control_fuses.control_levels.Given as goal

abbrev pub invariant-loop-number : goal.invariant-loop-number
invariant-loop-number g l = record {
  size : length l.levels.items ≡ l.number;
  levels : (n : ℕ) → g.D.Device.table.columns * g.D.Device.table.rows ≤ n → n < l.number → IsControlLevel g.D.Device.table l.plan l.forms n (is_on l.levels.items n);
}
