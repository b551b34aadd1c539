use Rattle.device_logic.proofs.Common.{IsPairCube}
use Rattle.device_logic.proofs.Walked.{EachBelow}
use Rattle.device_logic.proofs.pairing.pair_cubes.Given as goal

abbrev pub invariant-loop-row : goal.invariant-loop-row
invariant-loop-row g l = EachBelow (IsPairCube g.D.Device.table l.fuses) l.row l.cubes.items
