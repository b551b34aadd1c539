-- One signal more, and all signals.
use Rattle.std.proofs.Common.{◌<◌, ◌≤◌, ◌+◌, length, take, ap, ap₂, ◌∙◌, arith}
use Rattle.design_checks.proofs.Common.{length-take-le, take_all, take_more, earlier, first_refusal, first_append, context_for, use_order, aims_refused}
use Rattle.design_checks.proofs.JoinedFirsts.{one_more}
use Rattle.design_checks.proofs.RefusedStatements.{aim_at, aim_same, aims_push}
use Rattle.design_checks.proofs.written.refused_aims.Goals as goal

pub loop-position-preserved : goal.loop-position-preserved
loop-position-preserved g c w b e low =
    let i = c.loop-position.position in
    let aims = c.args.aims.now in
    let x = c.args.extension in
    let d = context_for g.D.Device.table c.args.scope.now in
    let within : i < length aims = omega (arith, c.loop-position-test.true) in
    c.earlier-first.ensures
    ∙ ap₂ (earlier use_order) (c.loop-position.invariant w b e low)
    (c.refused_aim.ensures ∙ aim_same d x _ (c.is_written_at-written.ensures w b e (omega (arith, within, low))))
    ∙ one_more (first_refusal use_order) (earlier use_order) (first_append use_order) (aims_refused d x w 0) (take i aims) (take (i + 1) aims) _ (aim_at d x w i _) (take_more aims i _ within)
    (aims_push d x w 0 i (take i aims) _ (omega (arith, length-take-le i aims (omega (arith, within)))))

pub returns : goal.returns
returns g c w b e low =
    let d = context_for g.D.Device.table c.args.scope.now in
    let i = c.loop-position.position in
    let aims = c.args.aims.now in
    let past : length aims ≤ i = omega (arith, c.loop-position-test.false) in
    c.loop-position.invariant w b e low ∙ ap (λ xs. first_refusal use_order (aims_refused d c.args.extension w 0 xs)) (take_all i aims past)
