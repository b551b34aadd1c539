use Rattle.std.proofs.Common.{◌≡◌, ℕ, ◌<◌, ◌≤◌, false}
use Rattle.page_model.specs.Idle.{is_live_row}
use Rattle.page_model.proofs.idle.is_some_live.Given as goal

abbrev pub invariant-loop-row : goal.invariant-loop-row
invariant-loop-row g l = (k : ℕ) → l.first ≤ k → k < l.row → is_live_row g.D.Device.table l.array k ≡ false
