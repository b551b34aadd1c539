use Rattle.std.proofs.Common.{◌≡◌, drop}
use Rattle.jedec_reader.proofs.Common.{list_all, is_among}
use Rattle.jedec_reader.proofs.entries.are_among.Given as goal

abbrev pub invariant-loop-byte : goal.invariant-loop-byte
invariant-loop-byte l = list_all (is_among l.text) (drop l.byte-index l.bytes) ≡ list_all (is_among l.text) l.bytes
