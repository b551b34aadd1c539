-- The constant 0 is there.
use Rattle.std.proofs.Common.{false}
use Rattle.expr_bits.proofs.Common.{Const, ShowsOne}
use Rattle.expr_bits.proofs.AlongWords.{zero_there, zero_is}
use Rattle.expr_bits.proofs.Making.{nothing_made}
use Rattle.expr_bits.proofs.reading.source_bit.Goals as goal

pub returns-in-None : goal.returns-in-None
returns-in-None c = rw c.in-None.is (nothing_made ShowsOne c.args.exprs.now (record { 0 = 0 }) (Const false) (zero_there c.args.exprs.now, zero_is c.args.exprs.now))
