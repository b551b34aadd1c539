use Rattle.std.proofs.Common.{◌≡◌, drop}
use Rattle.jedec_reader.proofs.Common.{concat, each_of, level_of, words}
use Rattle.jedec_reader.proofs.EntryLemmas.{behind, solid}
use Rattle.jedec_reader.proofs.entries.levels.Given as goal

abbrev pub invariant-loop-byte : goal.invariant-loop-byte
invariant-loop-byte l = behind l.levels.items (each_of level_of (solid (drop l.byte-index l.text))) ≡ each_of level_of (concat (words l.text))
