use Rattle.std.proofs.Common.{◌≡◌, ℕ, ◌<◌, false}
use Rattle.page_model.specs.Idle.{is_clocked}
use Rattle.page_model.proofs.pin_facts.is_some_clocked.Given as goal

abbrev pub invariant-loop-cell : goal.invariant-loop-cell
invariant-loop-cell g l = (k : ℕ) → k < l.cell → is_clocked g.D.Device.table l.array k ≡ false
