use Rattle.std.proofs.Common.{get_or, refl, arith}
use Rattle.fitter.proofs.Stepping.{wires_more}
use Rattle.fitter.proofs.evaluating.wired.Goals as goal

pub loop-place-init : goal.loop-place-init
loop-place-init c = record { each = λ k low small. absurd (omega (arith, low)) }

pub loop-place-preserved : goal.loop-place-preserved
loop-place-preserved c = record {
  each = wires_more c.args.pairs.now c.args.levels c.loop-place.wires c.with_level-wires.result c.loop-place.place (get_or c.args.pairs.now c.loop-place.place 0) c.pair_level-on.result
      (omega (arith, c.loop-place-test.true)) c.with_level-wires.ensures refl c.pair_level-on.ensures c.loop-place.invariant.each;
}
