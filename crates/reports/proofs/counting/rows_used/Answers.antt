use Rattle.std.proofs.Common.{◌≡◌, ◌+◌, ◌∙◌, ap, arith}
use Rattle.reports.proofs.Common.{count_by, range_with_len, Cell, is_used, rows_used}
use Rattle.device_logic.proofs.Ranges.{cell_found}
use Rattle.reports.proofs.Counts.{counted_is, counted_most, one_more}
use Rattle.reports.proofs.counting.rows_used.Goals as goal

pub loop-offset-preserved : goal.loop-offset-preserved
loop-offset-preserved g c =
    let is = c.from-count.ensures ∙ counted_is c.is_used-used.result in
    let most = counted_most c.is_used-used.result in
    record {
      few = omega (arith, is, most, c.loop-offset.invariant.few);
      is = one_more (is_used g.D.Device.table c.args.fuses.now) c.cell-shape.result.first c.loop-offset.offset (c.cell-shape.result.first + c.from.result) c.loop-offset.count c.from-count.result c.is_used-used.result
          (omega (arith, c.from.ensures)) c.loop-offset.invariant.is is c.is_used-used.ensures;
    }

pub returns-clause-count : goal.returns-clause-count
unfolding rows_used
returns-clause-count g c =
    let all : c.loop-offset.offset ≡ c.cell-shape.result.room = omega (arith, c.loop-offset-test.false, c.loop-offset.auto.offset-end) in
    c.loop-offset.invariant.is
    ∙ (ap (λ n. count_by (is_used g.D.Device.table c.args.fuses.now) (range_with_len c.cell-shape.result.first n)) all
    ∙ ap (λ (x : Cell). count_by (is_used g.D.Device.table c.args.fuses.now) (range_with_len x.first x.room)) (cell_found g.D.Device.table g.D.Device.sound c.args.cell c.cell-shape.result c.cell-shape.ensures))
