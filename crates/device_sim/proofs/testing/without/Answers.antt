use Rattle.std.proofs.Common.{refl}
use Rattle.device_sim.proofs.Common.{bit_not, w32, is_on-and}
use Rattle.device_sim.proofs.TestedPins.{is_on-not}
use Rattle.device_sim.proofs.testing.without.Goals as goal

pub returns : goal.returns
returns c =
    λ k within. rw (is_on-and 32 c.args.levels (bit_not w32 c.args.others) k within, is_on-not c.args.others k c.ranges.others.fits within) refl
