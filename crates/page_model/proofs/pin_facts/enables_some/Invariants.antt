use Rattle.std.proofs.Common.{◌≡◌, ℕ, ◌<◌, false}
use Rattle.page_model.specs.Pins.{is_enabled_low}
use Rattle.page_model.proofs.pin_facts.enables_some.Given as goal

abbrev pub invariant-loop-cell : goal.invariant-loop-cell
invariant-loop-cell g l = (k : ℕ) → k < l.cell → is_enabled_low g.D.Device.table l.pin k ≡ false
