use Rattle.std.proofs.Common.{length}
use Rattle.design_page.proofs.told_places.told_place.Given as goal

abbrev pub decreases-bytes : goal.decreases-bytes
decreases-bytes l = length l.rest
