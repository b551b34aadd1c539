use Rattle.std.proofs.Common.{◌≡◌, ◌<◌, length, false, sym, ◌∙◌, below_more, arith}
use Rattle.device_logic.proofs.Runs.{any_at, any_none}
use Rattle.page_model.specs.LevelReads.{reads_level}
use Rattle.page_model.proofs.level_reads.row_reads_level.Goals as goal

pub returns-then-reads_level : goal.returns-then-reads_level
returns-then-reads_level g c =
    let t = g.D.Device.table in
    let low : c.loop-pair.pair < length t.pairs = omega (arith, g.D.Device.sound.sizes.columns_even) in
    sym (any_at (reads_level t c.args.array.now c.args.pin c.args.row) 0 (length t.pairs) c.loop-pair.pair (omega arith) (omega (arith, low)) (sym c.reads_level.ensures ∙ c.if-reads_level.true))

pub loop-pair-preserved : goal.loop-pair-preserved
loop-pair-preserved g c =
    below_more (λ p. reads_level g.D.Device.table c.args.array.now c.args.pin c.args.row p ≡ false) c.loop-pair.pair c.loop-pair.invariant
    (sym c.reads_level.ensures ∙ c.if-reads_level.false)

pub returns : goal.returns
returns g c =
    let t = g.D.Device.table in
    sym (
    any_none (reads_level t c.args.array.now c.args.pin c.args.row) 0 (length t.pairs)
    (λ pair first low. c.loop-pair.invariant pair (omega (arith, low, g.D.Device.sound.sizes.columns_even))))
