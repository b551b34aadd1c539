use Rattle.std.proofs.Common.{◌≡◌, ◌++◌, take, flat_map}
use Rattle.grade_report.proofs.Common.{mismatch_line}
use Rattle.grade_report.proofs.mismatch_lines.put_mismatches.Given as goal

abbrev pub invariant-loop-it : goal.invariant-loop-it
invariant-loop-it l = l.text.items ≡ l.initial.text.items ++ flat_map mismatch_line (take l.it-index l.list)
