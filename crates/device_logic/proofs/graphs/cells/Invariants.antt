use Rattle.std.proofs.Common.{◌≡◌, ℕ, ◌&&◌, nat_lt}
use Rattle.device_logic.proofs.Common.{is_on}
use Rattle.device_logic.specs.Graphs.{holds}
use Rattle.device_logic.proofs.graphs.cells.Given as goal

abbrev pub invariant-loop-cell : goal.invariant-loop-cell
invariant-loop-cell g l = (d : ℕ) → is_on l.cells d ≡ (nat_lt d l.cell && holds g.D.Device.table l.array l.question d)
