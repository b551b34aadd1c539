use Rattle.std.proofs.Common.{length}
use Rattle.design_page.proofs.told_places.number_at.Given as goal

abbrev pub decreases-digits : goal.decreases-digits
decreases-digits l = length l.rest
