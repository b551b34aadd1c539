use Rattle.std.proofs.Common.{◌≡◌, ℕ, ◌<◌, ◌≤◌, false}
use Rattle.device_logic.proofs.Common.{levels_of, row_value}
use Rattle.device_logic.proofs.logic.DeviceLogic.some_of_few.Given as goal

abbrev pub invariant-loop-row : goal.invariant-loop-row
invariant-loop-row g l = (k : ℕ) → l.first ≤ k → k < l.row → row_value g.D.Device.table l.self.fuses (levels_of l.at) k ≡ false
