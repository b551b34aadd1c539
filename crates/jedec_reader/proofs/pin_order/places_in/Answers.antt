use Rattle.std.proofs.Common.{◌≢◌, ◌<◌, length, arith, get_or-set_other, get_or-set_same, below_more}
use Rattle.std.proofs.Math.ListN.{length-set}
use Rattle.jedec_reader.proofs.pin_order.places_in.Goals as goal

pub loop-pin-preserved : goal.loop-pin-preserved
loop-pin-preserved c = record {
  pins = simp length-set c.loop-pin.invariant.pins;
  below = below_more _ _
      (λ k h. let other : k ≢ c.loop-pin.pin = omega arith in rw get_or-set_other (c.loop-pin.invariant.below k h))
      (let low : c.loop-pin.pin < length c.loop-pin.places = omega (arith, c.loop-pin.invariant.pins, c.loop-pin-test.true, c.requires) in rw get_or-set_same c.place_of.ensures);
}
