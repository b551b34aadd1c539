use Rattle.std.proofs.Common.{◌≡◌, ◌++◌, drop}
use Rattle.jedec_reader.proofs.Common.{concat, words}
use Rattle.jedec_reader.proofs.EntryLemmas.{solid}
use Rattle.jedec_reader.proofs.entries.characters.Given as goal

abbrev pub invariant-loop-byte : goal.invariant-loop-byte
invariant-loop-byte l = l.characters.items ++ solid (drop l.byte-index l.text) ≡ concat (words l.text)
