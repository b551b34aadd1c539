-- None of the cells so far.
use Rattle.std.proofs.Common.{◌≡◌, drop}
use Rattle.placer.proofs.Common.{list_any, Cell, is_enabled_by}
use Rattle.placer.proofs.fitting.is_enabling.Given as goal

abbrev pub invariant-loop-index : goal.invariant-loop-index
invariant-loop-index g l =
    list_any (λ (c : Cell). is_enabled_by l.pin c.enable) g.D.Device.table.cells
    ≡ list_any (λ (c : Cell). is_enabled_by l.pin c.enable) (drop l.index g.D.Device.table.cells)
