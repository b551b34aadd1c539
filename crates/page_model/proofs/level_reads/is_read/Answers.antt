use Rattle.std.proofs.Common.{◌≡◌, false, sym, ◌∙◌, below_more, arith}
use Rattle.device_logic.proofs.Runs.{any_at, any_none}
use Rattle.page_model.specs.LevelReads.{row_reads_level}
use Rattle.page_model.proofs.level_reads.is_read.Goals as goal

pub returns-then-row_reads_level : goal.returns-then-row_reads_level
returns-then-row_reads_level g c =
    let t = g.D.Device.table in
    sym (any_at (row_reads_level t c.args.array.now c.args.pin) 0 t.rows c.loop-row.row (omega arith) (omega (arith)) (sym c.row_reads_level.ensures ∙ c.if-row_reads_level.true))

pub loop-row-preserved : goal.loop-row-preserved
loop-row-preserved g c =
    below_more (λ r. row_reads_level g.D.Device.table c.args.array.now c.args.pin r ≡ false) c.loop-row.row c.loop-row.invariant
    (sym c.row_reads_level.ensures ∙ c.if-row_reads_level.false)

pub returns : goal.returns
returns g c =
    let t = g.D.Device.table in
    sym (
    any_none (row_reads_level t c.args.array.now c.args.pin) 0 t.rows
    (λ row first low. c.loop-row.invariant row (omega (arith, low))))
