use Rattle.std.proofs.Common.{◌≡◌, ◌<◌, ℕ, Some}
use Rattle.fit_plans.proofs.Common.{Switches, fuse_for}
use Rattle.fit_plans.proofs.control_fuses.switch_level.Given as goal

abbrev pub invariant-loop-row : goal.invariant-loop-row
invariant-loop-row g l = record { none : (k : ℕ) → k < l.row → fuse_for g.D.Device.table (Switches k) ≡ Some l.fuse → ⊥ }
