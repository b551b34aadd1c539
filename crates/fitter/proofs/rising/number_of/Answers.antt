use Rattle.std.proofs.Common.{arith}
use Rattle.fitter.proofs.rising.number_of.Goals as goal

pub row_number-requires : goal.row_number-requires
row_number-requires g c = omega (arith, c.columns.ensures, g.D.Device.sound.sizes.columns_high)
