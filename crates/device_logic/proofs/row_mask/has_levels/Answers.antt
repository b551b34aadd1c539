use Rattle.std.proofs.Common.{◌∙◌}
use Rattle.device_logic.proofs.Common.{bit_not, w32}
use Rattle.device_logic.proofs.JoinedWords.{joined_meets}
use Rattle.device_logic.proofs.MaskedPoints.{meets_own}
use Rattle.device_logic.proofs.row_mask.has_levels.Goals as goal

pub returns : goal.returns
returns c =
    rw (c.joined-asked.ensures.words, c.joined-missing.ensures.words)
    (joined_meets c.args.cube c.args.levels (bit_not w32 c.args.levels) c.joined-asked.ensures.lower c.joined-missing.ensures.lower
    ∙ meets_own c.args.levels c.ranges.levels.fits c.args.cube)
