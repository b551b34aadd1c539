use Rattle.std.proofs.Common.{sym, ◌∙◌, arith}
use Rattle.device_logic.proofs.Common.{row_reads_cell}
use Rattle.device_logic.proofs.Runs.{any_at, any_none}
use Rattle.device_logic.proofs.reads.rows_read_cell.Goals as goal

pub returns-then-row_reads_cell : goal.returns-then-row_reads_cell
returns-then-row_reads_cell g c =
    sym (any_at (λ row. row_reads_cell g.D.Device.table c.args.array.now row c.args.cell) c.args.first c.args.room c.loop-row.row (omega arith) (omega arith) (sym c.row_reads_cell.ensures ∙ c.if-row_reads_cell.true))

pub returns : goal.returns
returns g c = sym (any_none (λ row. row_reads_cell g.D.Device.table c.args.array.now row c.args.cell) c.args.first c.args.room (λ k low high. c.loop-row.invariant k low (omega (arith, high))))
