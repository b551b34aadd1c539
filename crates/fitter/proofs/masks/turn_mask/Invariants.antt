-- The pairs so far have their bits.
use Rattle.std.proofs.Common.{◌<◌, ◌^◌, get_or}
use Rattle.fitter.proofs.Common.{bits, plain_netlist, carries_complement}
use Rattle.pld_device.specs.declared.carry.Carry.TheVariants as carry
use Rattle.fitter.proofs.Stepping.{LevelsBelow}
use Rattle.fitter.proofs.masks.turn_mask.Given as goal

abbrev pub invariant-loop-pair : goal.invariant-loop-pair
invariant-loop-pair g l = record {
  low : l.mask < 2 ^ 32;
  below : LevelsBelow (λ v. carries_complement g.D.Device.table (plain_netlist l.net) (get_or g.D.Device.table.pairs v (carry.Pin 0))) 32 l.pair (bits 32 l.mask);
}
