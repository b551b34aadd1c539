use Rattle.std.proofs.Common.{length}
use Rattle.design_page.proofs.source.put_text.Given as goal

abbrev pub decreases-lines : goal.decreases-lines
decreases-lines l = length l.rest
