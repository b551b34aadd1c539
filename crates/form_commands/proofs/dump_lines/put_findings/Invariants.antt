use Rattle.std.proofs.Common.{◌≡◌, ◌++◌, take}
use Rattle.form_commands.specs.DumpLines.{finding_lines}
use Rattle.form_commands.proofs.dump_lines.put_findings.Given as goal

abbrev pub invariant-loop-finding : goal.invariant-loop-finding
invariant-loop-finding l = l.text.items ≡ l.initial.text.items ++ finding_lines (take l.finding-index l.findings)
