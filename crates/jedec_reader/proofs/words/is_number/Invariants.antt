use Rattle.std.proofs.Common.{◌≡◌, drop}
use Rattle.jedec_reader.proofs.Common.{all_ascii_digits}
use Rattle.jedec_reader.proofs.words.is_number.Given as goal

abbrev pub invariant-loop-byte : goal.invariant-loop-byte
invariant-loop-byte l = all_ascii_digits (drop l.byte-index l.word) ≡ all_ascii_digits l.word
