use Rattle.std.proofs.Common.{length}
use Rattle.design_page.proofs.listed_warnings.put_warning_list.Given as goal

abbrev pub decreases-lines : goal.decreases-lines
decreases-lines l = length l.rest
