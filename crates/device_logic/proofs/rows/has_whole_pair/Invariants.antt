use Rattle.std.proofs.Common.{◌≡◌, ℕ, ◌<◌, false}
use Rattle.device_logic.proofs.Common.{row_fuses, is_whole}
use Rattle.device_logic.proofs.rows.has_whole_pair.Given as goal

abbrev pub invariant-loop-pair : goal.invariant-loop-pair
invariant-loop-pair g l = (p : ℕ) → p < l.pair → is_whole (row_fuses g.D.Device.table l.fuses l.row) p ≡ false
