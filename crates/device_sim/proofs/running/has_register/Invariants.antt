use Rattle.std.proofs.Common.{◌≡◌, ℕ, ◌<◌, false}
use Rattle.device_sim.proofs.running.has_register.Given as goal

abbrev pub invariant-loop-cell : goal.invariant-loop-cell
invariant-loop-cell g l = (c : ℕ) → c < l.cell → (g.L.Logic.meaning l.logic).stores c ≡ false
