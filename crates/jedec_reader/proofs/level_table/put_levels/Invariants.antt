use Rattle.std.proofs.Common.{take}
use Rattle.jedec_reader.proofs.Common.{HasPut}
use Rattle.jedec_reader.proofs.level_table.put_levels.Given as goal

abbrev pub invariant-loop-place : goal.invariant-loop-place
invariant-loop-place l = HasPut l.first (take l.place l.levels) l.initial.table l.table
