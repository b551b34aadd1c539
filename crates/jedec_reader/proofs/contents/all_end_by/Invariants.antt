use Rattle.std.proofs.Common.{◌≡◌, true, take}
use Rattle.jedec_reader.proofs.Common.{list_all, ends_by}
use Rattle.jedec_reader.proofs.contents.all_end_by.Given as goal

abbrev pub invariant-loop-field : goal.invariant-loop-field
invariant-loop-field l = list_all (ends_by l.count) (take l.field-index l.fields) ≡ true
