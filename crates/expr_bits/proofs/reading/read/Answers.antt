-- One bit without X.
use Rattle.std.proofs.Common.{refl}
use Rattle.expr_bits.proofs.Common.{make_source, source_of, constant_of}
use Rattle.abel_meaning.specs.Terms as term
use Rattle.expr_bits.proofs.OperatedBits.{one_made}
use Rattle.expr_bits.proofs.reading.read.Goals as goal

pub returns : goal.returns
returns g c d is =
    one_made c.args.exprs.now c.read_signal.new.exprs c.in_ok-bit.bit c.in_ok-bits.bits (make_source (source_of d c.args.signal c.args.extension)) (constant_of d (term.Read c.args.signal c.args.extension))
    (c.in_ok-bit.ensures d is) c.in_ok-bits.ensures refl refl
