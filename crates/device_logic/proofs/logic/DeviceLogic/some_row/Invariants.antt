use Rattle.std.proofs.Common.{◌≡◌, ℕ, ◌+◌, ◌*◌, ◌<◌, ◌≤◌, false}
use Rattle.device_logic.proofs.Common.{levels_of, row_value}
use Rattle.device_logic.proofs.logic.DeviceLogic.some_row.Given as goal

abbrev pub invariant-loop-pair : goal.invariant-loop-pair
invariant-loop-pair g l = (k : ℕ) → l.first ≤ k → k < l.first + 2 * l.pair → row_value g.D.Device.table l.self.fuses (levels_of l.at) k ≡ false
