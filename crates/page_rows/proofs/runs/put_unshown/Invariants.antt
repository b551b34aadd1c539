use Rattle.std.proofs.Common.{length}
use Rattle.page_rows.proofs.runs.put_unshown.Given as goal

abbrev pub decreases-texts : goal.decreases-texts
decreases-texts l = length l.rest
