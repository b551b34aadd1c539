-- One condition more, and all conditions.
use Rattle.std.proofs.Common.{◌+◌, List, map, drop, ap, sym, ◌∙◌, arith}
use Rattle.state_diagrams.proofs.Common.{drop_all, earlier, choices_of, view_choice, earlier_none, section_order, condition_refused, view_choices, choices_refused, entries_of, context_for}
use Rattle.state_diagrams.proofs.GuardLaws.{Choice, first, conditions_next, choice_parts}
use Rattle.state_diagrams.proofs.WalkedBranches.{rest_at}
use Rattle.state_diagrams.proofs.choices.check_conditions.Goals as goal

pub loop-arm-preserved : goal.loop-arm-preserved
loop-arm-preserved g c =
    let d = context_for g.D.Device.table c.args.scope.now in
    let list = c.as_slice-arm-items.result.now in
    let i = c.loop-arm.arm-index in
    let x = c.arm-item.result in
    let rest = map view_choice (drop (i + 1) list) in
    let found = c.earlier-fault.ensures
    ∙ ap (earlier section_order c.loop-arm.fault) (c.in_ok-found.ensures d (ap entries_of (sym c.scope.ensures)) ∙ ap (λ (y : Choice). first (condition_refused d y.1.0 y.0)) (sym (choice_parts x))) in
    ap (λ f. earlier section_order f (first (choices_refused d (choices_of rest)))) found
    ∙ conditions_next d c.loop-arm.fault (view_choice x) rest
    ∙ ap (λ (cs : List Choice). earlier section_order c.loop-arm.fault (first (choices_refused d (choices_of cs)))) (sym (rest_at view_choice list i x c.loop-arm-test.true c.arm-item.is))
    ∙ c.loop-arm.invariant

pub returns : goal.returns
returns g c =
    let d = context_for g.D.Device.table c.args.scope.now in
    let list = c.as_slice-arm-items.result.now in
    sym (earlier_none section_order c.loop-arm.fault)
    ∙ ap (λ xs. earlier section_order c.loop-arm.fault (first (choices_refused d (view_choices xs)))) (sym (drop_all c.loop-arm.arm-index list (omega (arith, c.loop-arm-test.false))))
    ∙ c.loop-arm.invariant ∙ ap (λ xs. first (choices_refused d (view_choices xs))) c.as_slice-arm-items.ensures
