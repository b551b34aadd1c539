use Rattle.std.proofs.Common.{◌≡◌, ◌<◌, length, not, false, sym, ap, ◌∙◌, below_more, arith}
use Rattle.device_logic.proofs.Runs.{any_at, any_none}
use Rattle.pld_device.specs.Reads.{row_reads}
use Rattle.page_model.proofs.drives.reads_nothing.Goals as goal

pub returns-then-row_reads : goal.returns-then-row_reads
returns-then-row_reads g c =
    let t = g.D.Device.table in
    let low : c.loop-pair.pair < length t.pairs = omega (arith, g.D.Device.sound.sizes.columns_even) in
    ap not
    (sym (any_at (row_reads t c.args.array.now c.args.row) 0 (length t.pairs) c.loop-pair.pair (omega arith) (omega (arith, low)) (sym c.row_reads.ensures ∙ c.if-row_reads.true)))

pub loop-pair-preserved : goal.loop-pair-preserved
loop-pair-preserved g c =
    below_more (λ p. row_reads g.D.Device.table c.args.array.now c.args.row p ≡ false) c.loop-pair.pair c.loop-pair.invariant
    (sym c.row_reads.ensures ∙ c.if-row_reads.false)

pub returns : goal.returns
returns g c =
    let t = g.D.Device.table in
    ap not
    (sym (any_none (row_reads t c.args.array.now c.args.row) 0 (length t.pairs)
    (λ pair first low. c.loop-pair.invariant pair (omega (arith, low, g.D.Device.sound.sizes.columns_even)))))
