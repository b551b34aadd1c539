use Rattle.std.proofs.Common.{◌≡◌, drop, max}
use Rattle.jedec_writer.proofs.Common.{past, fuses_named}
use Rattle.jedec_writer.proofs.control.past_registered.Given as goal

abbrev pub invariant-loop-cell : goal.invariant-loop-cell
invariant-loop-cell g l =
    max l.end (past (fuses_named (drop l.cell g.D.Device.table.registered))) ≡ past (fuses_named g.D.Device.table.registered)
