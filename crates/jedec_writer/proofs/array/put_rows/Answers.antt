use Rattle.std.proofs.Common.{List, ℕ, ap, ◌∙◌, ◌++◌}
use Rattle.jedec_writer.proofs.RowLines.{no_rows, one_row_more, row_is}
use Rattle.jedec_writer.proofs.array.put_rows.Goals as goal

pub loop-row-init : goal.loop-row-init
loop-row-init g c = no_rows g.D.Device.table.columns c.args.levels.now c.args.out.now.items

pub loop-row-preserved : goal.loop-row-preserved
loop-row-preserved g c =
    one_row_more g.D.Device.table.columns c.args.levels.now c.args.out.now.items c.loop-row.out.items c.put_levels_line.new.out.items c.loop-row.row c.loop-row.invariant
    (c.in_ok-put_levels_line.ensures ∙ ap (λ (xs : List ℕ). c.loop-row.out.items ++ xs) (row_is g.D.Device.table.columns c.columns.result c.columns-in-loop-row.result c.from.result c.from-in-loop-row.result c.loop-row.row c.args.levels.now c.columns.ensures c.columns-in-loop-row.ensures c.from.ensures c.from-in-loop-row.ensures))
