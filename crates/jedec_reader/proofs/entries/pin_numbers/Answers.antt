use Rattle.jedec_reader.proofs.Common.{each_of, words, pin_number}
use Rattle.jedec_reader.proofs.EntryLemmas.{behind_nothing}
use Rattle.jedec_reader.proofs.entries.pin_numbers.Goals as goal

pub loop-word-init : goal.loop-word-init
loop-word-init c = rw c.new-pins.ensures.items (behind_nothing (each_of pin_number (words c.args.text.now)))
