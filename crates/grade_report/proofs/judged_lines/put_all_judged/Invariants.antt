use Rattle.std.proofs.Common.{◌≡◌, ◌++◌, take, flat_map}
use Rattle.grade_report.proofs.Common.{judged_line}
use Rattle.grade_report.proofs.judged_lines.put_all_judged.Given as goal

abbrev pub invariant-loop-it : goal.invariant-loop-it
invariant-loop-it g l = l.text.items ≡ l.initial.text.items ++ flat_map (judged_line g.D.Device.table) (take l.it-index l.list)
