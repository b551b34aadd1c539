-- What the code reads is what the definition does.
use Rattle.std.proofs.Common.{subst}
use Rattle.expr_bits.proofs.Common.{Makes, ShowsOne, make_source}
use Rattle.expr_bits.proofs.reading.read_signal.Goals as goal

pub returns : goal.returns
returns g c d is =
    subst (λ s. Makes ShowsOne c.args.exprs.now c.source_bit.new.exprs c.source_bit.result (make_source s)) (c.signal_source-reading.ensures.source d is) c.source_bit.ensures
