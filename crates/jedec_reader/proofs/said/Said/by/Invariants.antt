use Rattle.std.proofs.Common.{take}
use Rattle.jedec_reader.proofs.Common.{IsSaidBy}
use Rattle.jedec_reader.proofs.said.Said.by.Given as goal

abbrev pub invariant-loop-field : goal.invariant-loop-field
invariant-loop-field l = IsSaidBy (take l.field-index l.fields) l.said
