use Rattle.std.proofs.Common.{◌≡◌, ◌++◌}
use Rattle.jedec_writer.proofs.Common.{row_lines}
use Rattle.jedec_writer.proofs.array.put_rows.Given as goal

abbrev pub invariant-loop-row : goal.invariant-loop-row
invariant-loop-row g l = l.out.items ≡ l.initial.out.items ++ row_lines g.D.Device.table.columns l.levels l.row
