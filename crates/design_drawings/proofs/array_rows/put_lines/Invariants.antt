use Rattle.std.proofs.Common.{length}
use Rattle.design_drawings.proofs.array_rows.put_lines.Given as goal

abbrev pub decreases-lines : goal.decreases-lines
decreases-lines l = length l.rest
