use Rattle.std.proofs.Common.{◌≡◌, map}
use Rattle.device_logic.proofs.Common.{range_with_len, is_live}
use Rattle.device_logic.proofs.rows.live_rows.Given as goal

abbrev pub invariant-loop-row : goal.invariant-loop-row
invariant-loop-row g l = l.live.items ≡ map (is_live g.D.Device.table l.fuses) (range_with_len 0 l.row)
