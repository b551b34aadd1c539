use Rattle.std.proofs.Common.{◌≡◌, ◌<◌, drop}
use Rattle.jedec_reader.proofs.Common.{short_number}
use Rattle.jedec_reader.proofs.Numbers.{short_after}
use Rattle.jedec_reader.proofs.words.short_number.Given as goal

abbrev pub invariant-loop-byte : goal.invariant-loop-byte
invariant-loop-byte l = record {
  rest : short_after l.number (drop l.byte-index l.word) ≡ short_number l.word;
  small : l.number < 65536;
}
