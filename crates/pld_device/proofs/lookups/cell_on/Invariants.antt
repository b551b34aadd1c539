-- None of the cells so far has the pin.
use Rattle.std.proofs.Common.{◌≡◌, drop, ◌==◌, position}
use Rattle.pld_device.proofs.Common.{position_from, Cell}
use Rattle.pld_device.proofs.lookups.cell_on.Given as goal

abbrev pub invariant-loop-index : goal.invariant-loop-index
invariant-loop-index g l =
    position (λ (c : Cell). c.pin == l.pin) g.D.Device.table.cells
    ≡ position_from (λ (c : Cell). c.pin == l.pin) l.index (drop l.index g.D.Device.table.cells)
