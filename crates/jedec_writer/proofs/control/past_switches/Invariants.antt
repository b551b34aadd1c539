use Rattle.std.proofs.Common.{◌≡◌, drop, max}
use Rattle.jedec_writer.proofs.Common.{past}
use Rattle.jedec_writer.proofs.control.past_switches.Given as goal

abbrev pub invariant-loop-row : goal.invariant-loop-row
invariant-loop-row g l = max l.end (past (drop l.row g.D.Device.table.row_switches)) ≡ past g.D.Device.table.row_switches
