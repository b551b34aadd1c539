use Rattle.std.proofs.Common.{◌≡◌, ◌<◌, ℕ, Some}
use Rattle.fit_plans.proofs.Common.{IsFixed, fuse_for}
use Rattle.fit_plans.proofs.control_fuses.fixed_level.Given as goal

abbrev pub invariant-loop-index : goal.invariant-loop-index
invariant-loop-index g l = record { none : (k : ℕ) → k < l.index → fuse_for g.D.Device.table (IsFixed k) ≡ Some l.fuse → ⊥ }
