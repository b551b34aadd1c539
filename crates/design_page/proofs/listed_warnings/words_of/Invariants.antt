use Rattle.std.proofs.Common.{length}
use Rattle.design_page.proofs.listed_warnings.words_of.Given as goal

abbrev pub decreases-bytes : goal.decreases-bytes
decreases-bytes l = length l.rest
