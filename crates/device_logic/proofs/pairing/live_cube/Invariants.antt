use Rattle.device_logic.proofs.PairedRows.{CubeBelow}
use Rattle.device_logic.proofs.pairing.live_cube.Given as goal

abbrev pub invariant-loop-pair : goal.invariant-loop-pair
invariant-loop-pair g l = CubeBelow g.D.Device.table l.fuses l.row l.pair l.cube
