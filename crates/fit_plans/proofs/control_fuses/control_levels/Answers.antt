use Rattle.std.proofs.Common.{◌+◌, ◌*◌, ◌∙◌, length, ap, arith, [], ◌∷◌}
use Rattle.fit_plans.proofs.Common.{length-append, IsControlLevel}
use Rattle.fit_plans.proofs.ControlFuses.{more_levels}
use Rattle.fit_plans.proofs.control_fuses.control_levels.Goals as goal

pub loop-number-init : goal.loop-number-init
loop-number-init g c = record { size = ap length c.new-levels.ensures.items; levels = λ n out low. absurd (omega (arith, low)) }

pub loop-number-preserved : goal.loop-number-preserved
loop-number-preserved g c = record {
  size = ap length c.in_ok-push.ensures.items ∙ length-append c.loop-number.levels.items (c.level_past.result ∷ []) ∙ ap (λ n. n + 1) c.loop-number.invariant.size;
  levels = more_levels (IsControlLevel g.D.Device.table c.args.plan.now c.args.forms.now) (g.D.Device.table.columns * g.D.Device.table.rows) c.loop-number.number c.loop-number.levels.items
      c.push.new.self.items c.level_past.result c.in_ok-push.ensures.items c.loop-number.invariant.size c.loop-number.invariant.levels c.level_past.ensures;
}

pub returns-clause-size : goal.returns-clause-size
returns-clause-size g c =
    c.loop-number.invariant.size ∙ omega (arith, c.loop-number.auto.number-end, c.loop-number-test.false, c.fuses-number-end.ensures)

pub returns-clause-levels : goal.returns-clause-levels
returns-clause-levels g c =
    λ n out low. c.loop-number.invariant.levels n out (omega (arith, low, c.loop-number.auto.number-end, c.loop-number-test.false, c.fuses-number-end.ensures))
