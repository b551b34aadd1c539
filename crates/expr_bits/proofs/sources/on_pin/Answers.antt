-- A device has few cells.
use Rattle.std.proofs.Common.{arith}
use Rattle.expr_bits.proofs.sources.on_pin.Goals as goal

pub returns-in-Some-clause-leaf : goal.returns-in-Some-clause-leaf
returns-in-Some-clause-leaf g c h = c.cell_source.ensures.leaf (omega (arith, c.in-Some.ensures.within, g.D.Device.sound.sizes.few_cells))
