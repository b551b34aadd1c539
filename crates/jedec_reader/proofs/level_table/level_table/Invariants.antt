use Rattle.std.proofs.Common.{◌≡◌, take}
use Rattle.jedec_reader.proofs.Common.{levels_said}
use Rattle.jedec_reader.proofs.level_table.level_table.Given as goal

abbrev pub invariant-loop-field : goal.invariant-loop-field
invariant-loop-field g l = l.table.items ≡ levels_said (take l.field-index l.fields) g.D.Device.table.fuses
