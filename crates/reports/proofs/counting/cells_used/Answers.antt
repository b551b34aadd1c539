use Rattle.std.proofs.Common.{◌≡◌, length, ◌∙◌, ap, arith, is_some}
use Rattle.reports.proofs.Common.{count_by, range_with_len, plain_netlist, wanted_at, assigned_cells}
use Rattle.reports.proofs.Counts.{counted_is, counted_most, one_more}
use Rattle.reports.proofs.counting.cells_used.Goals as goal

pub loop-cell-preserved : goal.loop-cell-preserved
loop-cell-preserved g c =
    let is = c.from-count.ensures ∙ counted_is c.is_assigned.result in
    let most = counted_most c.is_assigned.result in
    record {
      few = omega (arith, is, most, c.loop-cell.invariant.few);
      is = one_more (λ x. is_some (wanted_at (plain_netlist c.args.net.now) x)) 0 c.loop-cell.cell c.loop-cell.cell c.loop-cell.count c.from-count.result c.is_assigned.result (omega arith)
          c.loop-cell.invariant.is is c.is_assigned.ensures;
    }

pub returns : goal.returns
unfolding assigned_cells
returns g c =
    let all : c.loop-cell.cell ≡ length g.D.Device.table.cells = omega (arith, c.loop-cell-test.false, c.cells-cell-end.ensures, c.loop-cell.auto.cell-end) in
    c.loop-cell.invariant.is ∙ ap (λ n. count_by (λ x. is_some (wanted_at (plain_netlist c.args.net.now) x)) (range_with_len 0 n)) all
