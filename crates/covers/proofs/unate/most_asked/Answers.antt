use Rattle.covers.proofs.Common.{w32, bit_at-trailing_zeros}
use Rattle.covers.proofs.unate.most_asked.Goals as goal

pub loop-variable-init : goal.loop-variable-init
loop-variable-init c =
    let first = bit_at-trailing_zeros w32 c.args.mask c.requires.some c.ranges.mask.fits in
    record { low = first.0; in_mask = first.1 }
