use Rattle.std.proofs.Common.{◌+◌, ◌∙◌, length, ap, arith, [], ◌∷◌}
use Rattle.std.proofs.lemmas.List.{length-append}
use Rattle.fuse_porting.specs.Controls.{IsPortedLevel}
use Rattle.fuse_porting.proofs.ControlFuses.{more_levels}
use Rattle.fuse_porting.proofs.porting.ported_levels.Goals as goal

pub loop-number-init : goal.loop-number-init
loop-number-init g c = record { size = ap length c.new-levels.ensures.items; levels = λ n out low. absurd (omega (arith, low)) }

pub loop-number-preserved : goal.loop-number-preserved
loop-number-preserved g c = record {
  size = ap length c.in_ok-push.ensures.items ∙ length-append c.loop-number.levels.items (c.ported_level.result ∷ []) ∙ ap (λ n. n + 1) c.loop-number.invariant.size;
  levels = more_levels (IsPortedLevel g.F.Device.table g.T.Device.table c.args.fuses.now c.args.polarities.now) 0 c.loop-number.number c.loop-number.levels.items
      c.push.new.self.items c.ported_level.result c.in_ok-push.ensures.items c.loop-number.invariant.size c.loop-number.invariant.levels (λ out. c.ported_level.ensures);
}

pub returns-clause-size : goal.returns-clause-size
returns-clause-size g c =
    c.loop-number.invariant.size ∙ omega (arith, c.loop-number.auto.number-end, c.loop-number-test.false, c.fuses-number-end.ensures)

pub returns-clause-levels : goal.returns-clause-levels
returns-clause-levels g c =
    λ n low. c.loop-number.invariant.levels n (omega arith) (omega (arith, low, c.loop-number.auto.number-end, c.loop-number-test.false, c.fuses-number-end.ensures))
