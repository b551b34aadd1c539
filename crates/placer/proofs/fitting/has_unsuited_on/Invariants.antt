-- None of the cells so far.
use Rattle.std.proofs.Common.{◌≡◌, ◌==◌, ◌&&◌, drop}
use Rattle.placer.proofs.Common.{list_any, Cell}
use Rattle.placer.specs.Signals.{is_unsuited}
use Rattle.placer.proofs.fitting.has_unsuited_on.Given as goal

abbrev pub invariant-loop-index : goal.invariant-loop-index
invariant-loop-index g l =
    list_any (λ (c : Cell). (c.pin == l.pin) && is_unsuited l.assigned c.enable) g.D.Device.table.cells
    ≡ list_any (λ (c : Cell). (c.pin == l.pin) && is_unsuited l.assigned c.enable) (drop l.index g.D.Device.table.cells)
