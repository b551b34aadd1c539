use Rattle.jedec_reader.proofs.EntryLemmas.{levels_begin}
use Rattle.jedec_reader.proofs.entries.levels.Goals as goal

pub loop-byte-init : goal.loop-byte-init
loop-byte-init c = rw c.in_ok-levels.ensures.items (levels_begin c.args.text.now)
