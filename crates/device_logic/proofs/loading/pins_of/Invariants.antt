use Rattle.std.proofs.Common.{◌≡◌, map, take}
use Rattle.device_logic.proofs.Common.{cell_at}
use Rattle.device_logic.proofs.loading.pins_of.Given as goal

abbrev pub invariant-loop-cell : goal.invariant-loop-cell
invariant-loop-cell g l = l.pins.items ≡ map (λ c. (cell_at g.D.Device.table c).pin) (take l.cell-index l.cells)
