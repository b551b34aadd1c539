-- Fewer registers are left.
use Rattle.std.proofs.Common.{length}
use Rattle.state_diagrams.proofs.guards.+state_guard.Given as goal

abbrev pub decreases-state_guard : goal.decreases-state_guard
decreases-state_guard g l = length l.registers.now
