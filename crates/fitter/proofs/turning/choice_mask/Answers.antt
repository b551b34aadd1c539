use Rattle.std.proofs.Common.{arith}
use Rattle.fitter.proofs.Common.{bits, length-bits}
use Rattle.fitter.proofs.Stepping.{levels_more, no_levels}
use Rattle.fitter.proofs.ChoiceBits.{is_choice_mask}
use Rattle.fitter.proofs.turning.choice_mask.Goals as goal

pub loop-pair-init : goal.loop-pair-init
loop-pair-init g c = record { low = omega arith; below = no_levels _ 32 }

pub with_level-mask-requires : goal.with_level-mask-requires
with_level-mask-requires g c =
    omega (arith, c.loop-pair-test.true, c.pair_count-pair-end.ensures, g.D.Device.sound.sizes.columns_even, g.D.Device.sound.sizes.columns_high)

pub loop-pair-preserved : goal.loop-pair-preserved
loop-pair-preserved g c = record {
  low = omega (arith, c.with_level-mask.type_inv);
  below = levels_more _ 32 c.loop-pair.pair (bits 32 c.loop-pair.mask) (bits 32 c.with_level-mask.result) c.carries_choice-on.result (length-bits 32 c.loop-pair.mask)
      (omega (arith, c.loop-pair-test.true, c.pair_count-pair-end.ensures, g.D.Device.sound.sizes.columns_even, g.D.Device.sound.sizes.columns_high))
      c.loop-pair.invariant.below c.with_level-mask.ensures c.carries_choice-on.ensures;
}

pub returns : goal.returns
returns g c =
    is_choice_mask g.D.Device.table g.D.Device.sound c.args.net.now c.args.forms.now c.loop-pair.pair c.loop-pair.mask c.loop-pair.invariant.low
    (omega (arith, c.loop-pair-test.false, c.pair_count-pair-end.ensures)) c.loop-pair.invariant.below
