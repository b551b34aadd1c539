use Rattle.std.proofs.Common.{◌-◌}
use Rattle.design_page.proofs.places.Origins.at.Given as goal

abbrev pub decreases-halves : goal.decreases-halves
decreases-halves l = l.high - l.low
