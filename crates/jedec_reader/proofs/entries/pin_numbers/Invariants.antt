use Rattle.std.proofs.Common.{◌≡◌, length}
use Rattle.jedec_reader.proofs.Common.{each_of, words, pin_number}
use Rattle.jedec_reader.proofs.EntryLemmas.{behind}
use Rattle.jedec_reader.proofs.entries.pin_numbers.Given as goal

abbrev pub invariant-loop-word : goal.invariant-loop-word
invariant-loop-word l = behind l.pins.items (each_of pin_number (words l.rest)) ≡ each_of pin_number (words l.fn.text)

abbrev pub decreases-loop-word : goal.decreases-loop-word
decreases-loop-word l = length l.rest
