use Rattle.std.proofs.Common.{◌≡◌, false, sym, ◌∙◌, below_more, arith}
use Rattle.fuse_compare.proofs.Common.{any_at, any_none, carries, row_reads_some}
use Rattle.fuse_compare.proofs.reads.is_read.Goals as goal

pub returns-then-row_reads : goal.returns-then-row_reads
returns-then-row_reads g c =
    let t = g.D.Device.table in
    sym (any_at (row_reads_some t c.args.array.now (carries t c.args.array.now c.args.variable)) 0 t.rows c.loop-row.row (omega arith) (omega (arith)) (sym c.row_reads.ensures ∙ c.if-row_reads.true))

pub loop-row-preserved : goal.loop-row-preserved
loop-row-preserved g c =
    below_more (λ r. row_reads_some g.D.Device.table c.args.array.now (carries g.D.Device.table c.args.array.now c.args.variable) r ≡ false) c.loop-row.row c.loop-row.invariant
    (sym c.row_reads.ensures ∙ c.if-row_reads.false)

pub returns : goal.returns
returns g c =
    let t = g.D.Device.table in
    sym (
    any_none (row_reads_some t c.args.array.now (carries t c.args.array.now c.args.variable)) 0 t.rows
    (λ row first low. c.loop-row.invariant row (omega (arith, low))))
