use Rattle.std.proofs.Common.{◌<◌, length, sym, ◌∙◌, arith}
use Rattle.device_logic.proofs.PairWalks.{row_whole, row_whole_none}
use Rattle.device_logic.proofs.rows.has_whole_pair.Goals as goal

pub returns-then-is_whole : goal.returns-then-is_whole
returns-then-is_whole g c =
    let low : c.loop-pair.pair < length g.D.Device.table.pairs = omega (arith, g.D.Device.sound.sizes.columns_even) in
    sym (row_whole g.D.Device.table c.args.fuses.now c.args.row g.D.Device.sound.sizes.columns_even g.D.Device.sound.sizes.array_fits c.requires.size c.requires.row c.loop-pair.pair low (sym c.is_whole.ensures ∙ c.if-is_whole.true))

pub returns : goal.returns
returns g c =
    sym (
    row_whole_none g.D.Device.table c.args.fuses.now c.args.row g.D.Device.sound.sizes.columns_even g.D.Device.sound.sizes.array_fits c.requires.size c.requires.row
    (λ pair low. c.loop-pair.invariant pair (omega (arith, low, g.D.Device.sound.sizes.columns_even))))
