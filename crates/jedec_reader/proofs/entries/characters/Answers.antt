use Rattle.jedec_reader.proofs.EntryLemmas.{concat_words}
use Rattle.jedec_reader.proofs.entries.characters.Goals as goal

pub loop-byte-init : goal.loop-byte-init
loop-byte-init c = rw c.in_ok-characters.ensures.items (concat_words c.args.text.now)
