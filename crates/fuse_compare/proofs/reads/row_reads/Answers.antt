use Rattle.std.proofs.Common.{◌≡◌, ◌<◌, length, false, sym, ◌∙◌, below_more, arith}
use Rattle.fuse_compare.proofs.Common.{any_at, any_none, carries, reads_at}
use Rattle.fuse_compare.proofs.reads.row_reads.Goals as goal

pub returns-then-reads_at : goal.returns-then-reads_at
returns-then-reads_at g c =
    let t = g.D.Device.table in
    let low : c.loop-pair.pair < length t.pairs = omega (arith, g.D.Device.sound.sizes.columns_even) in
    sym (any_at (reads_at t c.args.array.now (carries t c.args.array.now c.args.variable) c.args.row) 0 (length t.pairs) c.loop-pair.pair (omega arith) (omega (arith, low)) (sym c.reads_at.ensures ∙ c.if-reads_at.true))

pub loop-pair-preserved : goal.loop-pair-preserved
loop-pair-preserved g c =
    below_more (λ p. reads_at g.D.Device.table c.args.array.now (carries g.D.Device.table c.args.array.now c.args.variable) c.args.row p ≡ false) c.loop-pair.pair c.loop-pair.invariant
    (sym c.reads_at.ensures ∙ c.if-reads_at.false)

pub returns : goal.returns
returns g c =
    let t = g.D.Device.table in
    sym (
    any_none (reads_at t c.args.array.now (carries t c.args.array.now c.args.variable) c.args.row) 0 (length t.pairs)
    (λ pair first low. c.loop-pair.invariant pair (omega (arith, low, g.D.Device.sound.sizes.columns_even))))
