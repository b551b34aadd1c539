use Rattle.std.proofs.Common.{◌≡◌, ℕ, ◌<◌, false}
use Rattle.fuse_forms.specs.Warnings.{is_row_possible}
use Rattle.fuse_forms.proofs.warnings.is_row_in_use.Given as goal

abbrev pub invariant-loop-row : goal.invariant-loop-row
invariant-loop-row g l = (k : ℕ) → k < l.row → is_row_possible g.D.Device.table l.levels k ≡ false
