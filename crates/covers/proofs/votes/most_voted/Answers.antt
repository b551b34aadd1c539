use Rattle.covers.proofs.Common.{w32, bit_at-trailing_zeros}
use Rattle.covers.proofs.votes.most_voted.Goals as goal

pub loop-variable-init : goal.loop-variable-init
loop-variable-init c =
    let first = bit_at-trailing_zeros w32 c.args.left c.requires c.ranges.left.fits in
    record { low = first.0; is_left = first.1 }
