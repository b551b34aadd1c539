use Rattle.std.proofs.Common.{refl, ap, ◌∙◌, length, List, arith}
use Rattle.fitter.proofs.Common.{bits, is_on, Function}
use Rattle.fitter.proofs.Turns.{can_evaluate, first_turn, last_turn, next_turn}
use Rattle.fitter.proofs.evaluating.valued_point.Goals as goal

pub loop-turn-init : goal.loop-turn-init
loop-turn-init g c = record { turned = first_turn g.D.Device.table c.args.net.now _ refl }

pub loop-turn-preserved : goal.loop-turn-preserved
loop-turn-preserved g c =
    record { turned = next_turn g.D.Device.table c.args.net.now c.loop-turn._turn _ c.loop-turn.at _ c.loop-turn.invariant.turned refl refl c.in_ok-at.ensures }

pub returns-clause-wired : goal.returns-clause-wired
returns-clause-wired g c = record {
  pins = λ k low small. ap (λ m. is_on (bits 32 m) k) c.loop-turn.invariant.turned.pins ∙ c.wired.ensures k low small;
  q = λ k low small. ap (λ m. is_on (bits 32 m) k) c.loop-turn.invariant.turned.q ∙ c.wired-2.ensures k low small;
}

pub returns-clause-valued : goal.returns-clause-valued
returns-clause-valued g c =
    last_turn g.D.Device.table c.args.net.now c.requires c.loop-turn._turn _ c.loop-turn.at
    (omega (arith, c.loop-turn-test.false, ap (λ (fs : List Function). length fs) c.as_slice-turn-end.ensures)) c.loop-turn.invariant.turned
