use Rattle.std.proofs.Common.{arith}
use Rattle.jedec_reader.proofs.Numbers.{short_after_zero}
use Rattle.jedec_reader.proofs.words.short_number.Goals as goal

pub loop-byte-init : goal.loop-byte-init
loop-byte-init c = record { rest = short_after_zero c.args.word.now; small = omega arith }
