use Rattle.std.proofs.Common.{◌∙◌}
use Rattle.device_logic.proofs.Ranges.{reset_if_any}
use Rattle.device_logic.proofs.graphs.holds.Goals as goal

pub row_reads_if_any-requires-clause-row : goal.row_reads_if_any-requires-clause-row
row_reads_if_any-requires-clause-row g c = rw c.reset.ensures (reset_if_any g.D.Device.table g.D.Device.sound)
