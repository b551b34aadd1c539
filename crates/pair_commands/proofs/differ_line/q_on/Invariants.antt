-- None of the cells so far is on the pin with a Q of 1.
use Rattle.std.proofs.Common.{◌≡◌, ℕ, ◌<◌, ◌==◌, ◌&&◌, false}
use Rattle.pair_commands.proofs.Common.{bits, is_on, cell_at}
use Rattle.pair_commands.proofs.differ_line.q_on.Given as goal

abbrev pub invariant-loop-cell : goal.invariant-loop-cell
invariant-loop-cell g l =
    (k : ℕ) → k < l.cell → ((cell_at g.D.Device.table k).pin == l.pin && is_on (bits 32 l.stored) k) ≡ false
