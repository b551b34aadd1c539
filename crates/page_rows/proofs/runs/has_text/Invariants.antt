use Rattle.std.proofs.Common.{length}
use Rattle.page_rows.proofs.runs.has_text.Given as goal

abbrev pub decreases-bytes : goal.decreases-bytes
decreases-bytes l = length l.rest
