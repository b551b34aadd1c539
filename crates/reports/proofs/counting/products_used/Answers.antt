use Rattle.std.proofs.Common.{◌≡◌, length, ◌+◌, ◌∙◌, ap, arith}
use Rattle.reports.proofs.Common.{range_with_len, sum_by, products_used, rows_used}
use Rattle.reports.proofs.Counts.{sum_next}
use Rattle.reports.proofs.counting.products_used.Goals as goal

pub loop-cell-preserved : goal.loop-cell-preserved
loop-cell-preserved g c =
    let rows = rows_used g.D.Device.table c.args.fuses.now in
    let from_zero : rows (0 + c.loop-cell.cell) ≡ rows c.loop-cell.cell = ap rows (omega arith) in
    record {
      few = omega (arith, c.loop-cell.invariant.few, c.rows_used-count.ensures.most);
      is = omega (arith, c.loop-cell.invariant.is, c.rows_used-count.ensures.count, sum_next rows 0 c.loop-cell.cell, from_zero);
    }

pub returns : goal.returns
unfolding products_used
returns g c =
    let all : c.loop-cell.cell ≡ length g.D.Device.table.cells = omega (arith, c.loop-cell-test.false, c.cells-cell-end.ensures, c.loop-cell.auto.cell-end) in
    c.loop-cell.invariant.is ∙ ap (λ n. sum_by (rows_used g.D.Device.table c.args.fuses.now) (range_with_len 0 n)) all
