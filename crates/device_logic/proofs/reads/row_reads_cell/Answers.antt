use Rattle.std.proofs.Common.{◌≡◌, ◌<◌, length, false, sym, ◌∙◌, below_more, arith}
use Rattle.device_logic.proofs.Common.{pair_reads}
use Rattle.device_logic.proofs.ReadCells.{row_reads_cell-from, row_reads_cell-none}
use Rattle.device_logic.proofs.reads.row_reads_cell.Goals as goal

pub returns-then-pair_reads : goal.returns-then-pair_reads
returns-then-pair_reads g c =
    let low : c.loop-pair.pair < length g.D.Device.table.pairs = omega (arith, g.D.Device.sound.sizes.columns_even) in
    sym (row_reads_cell-from g.D.Device.table c.args.array.now c.args.row c.args.cell c.loop-pair.pair low (sym c.pair_reads.ensures ∙ c.if-pair_reads.true))

pub loop-pair-preserved : goal.loop-pair-preserved
loop-pair-preserved g c = below_more (λ p. pair_reads g.D.Device.table c.args.array.now c.args.row c.args.cell p ≡ false) c.loop-pair.pair c.loop-pair.invariant (sym c.pair_reads.ensures ∙ c.if-pair_reads.false)

pub returns : goal.returns
returns g c =
    sym (
    row_reads_cell-none g.D.Device.table c.args.array.now c.args.row c.args.cell
    (λ pair low. c.loop-pair.invariant pair (omega (arith, low, g.D.Device.sound.sizes.columns_even))))
