use Rattle.std.proofs.Common.{◌≡◌, ℕ, ◌<◌, true}
use Rattle.fuse_forms.specs.Warnings.{is_open_at}
use Rattle.fuse_forms.proofs.warnings.is_row_possible.Given as goal

abbrev pub invariant-loop-pair : goal.invariant-loop-pair
invariant-loop-pair g l = (k : ℕ) → k < l.pair → is_open_at g.D.Device.table l.levels l.row k ≡ true
