use Rattle.std.proofs.Common.{◌≡◌, drop}
use Rattle.jedec_reader.proofs.Common.{is_among}
use Rattle.jedec_reader.proofs.entries.is_among.Given as goal

abbrev pub invariant-loop-other : goal.invariant-loop-other
invariant-loop-other l = is_among (drop l.other-index l.text) l.byte ≡ is_among l.text l.byte
