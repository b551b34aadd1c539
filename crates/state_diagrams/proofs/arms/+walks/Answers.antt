-- Transitions by their kinds, IF, and one arm of CASE more.
use Rattle.std.proofs.Common.{◌≡◌, ◌+◌, ◌<◌, Option, ◌∷◌, List, map, drop, get_or, length, refl, ap, sym, ◌∙◌, subst, subst₂, arith, rules, OnOk, option_map}
use Rattle.state_diagrams.proofs.Common.{drop_all, on_ok_weaker, ExprId, arena, formula_at, Formula, Arm, the_lemmas, CaseArm, Branch, choices_of, other_of, view, view_arm, view_choice, condition_of, formulas, Guard, context_for, AreBits, AreIn, kept_formula, kept_inside, walks_none, arm_guards, case_choices, case_place, view_choices, StandsBranch, StandsChoices, WalksBranch, WalksChoices, StillStands, stands_same}
use Rattle.state_diagrams.proofs.StandingParts.{StandsOther, case_stands, choices_end, choices_stand, if_ends, if_stands, nothing_given}
use Rattle.abel_meaning.specs.Contributions as meant
use Rattle.state_diagrams.proofs.StateBits.{bits_kept}
use Rattle.state_diagrams.proofs.GuardLaws.{Choice, arm_holds, choice_parts, view_goaled, view_iffed, view_cased}
use Rattle.state_diagrams.proofs.WalkedBranches.{WalksOther, branch_clear, branch_keeps, case_walk, choices_walk, if_walk, rest_at}
use Rattle.state_diagrams.proofs.arms.+walks.Goals as goal

-- ---- each kind

pub walk_arm-returns-in-Goal-clause-walks : goal.walk_arm-returns-in-Goal-clause-walks
walk_arm-returns-in-Goal-clause-walks g t c =
    subst (λ (b : Branch). OnOk c.walk_goal.result (WalksBranch g.D.Device.table c.args.machine.now c.args.guard b c.args.out.now c.walk_goal.new.out)) (sym (ap view_arm c.in-Goal.is ∙ view_goaled c.in-Goal.goal)) c.walk_goal.ensures.walks

pub walk_arm-returns-in-If-clause-walks : goal.walk_arm-returns-in-If-clause-walks
walk_arm-returns-in-If-clause-walks g t c =
    subst (λ (b : Branch). OnOk c.walk_if.result (WalksBranch g.D.Device.table c.args.machine.now c.args.guard b c.args.out.now c.walk_if.new.out)) (sym (ap view_arm c.in-If.is ∙ view_iffed c.in-If.choice)) c.walk_if.ensures.walks

pub walk_arm-returns-in-Case-clause-walks : goal.walk_arm-returns-in-Case-clause-walks
walk_arm-returns-in-Case-clause-walks g t c =
    subst (λ (b : Branch). OnOk c.walk_case.result (WalksBranch g.D.Device.table c.args.machine.now c.args.guard b c.args.out.now c.walk_case.new.out)) (sym (ap view_arm c.in-Case.is ∙ view_cased c.in-Case.case)) c.walk_case.ensures.walks

-- ---- IF

pub walk_if-walk_arm-requires-in-Some : goal.walk_if-walk_arm-requires-in-Some
walk_if-walk_arm-requires-in-Some g t c κs within =
    let m = c.args.machine.now in
    let then : Guard = record c.args.guard { when = c.in_ok-chosen.chosen.then } in
    let keeps = branch_keeps g.D.Device.table m then (view_arm c.get.result.now) c.walk_condition.new.out c.walk_arm.new.out c.in_ok-walk_arm.ensures.walks in
    (search (rules, the_lemmas), (within, (c.requires.signals, kept_inside _ _ c.in_ok-chosen.chosen.otherwise keeps c.in_ok-chosen.ensures.guards.else_inside)))

pub walk_if-returns-in-None-clause-walks : goal.walk_if-returns-in-None-clause-walks
walk_if-returns-in-None-clause-walks g t c =
    let tb = g.D.Device.table in
    let m = c.args.machine.now in
    let gs = c.in_ok-chosen.chosen in
    let mid = c.walk_condition.new.out in
    let new = c.walk_arm.new.out in
    if_walk tb m c.args.guard gs c.args.choice.now c.is_some.result c.args.out.now mid new new c.is_some.ensures c.in_ok-chosen.ensures.walks c.in_ok-chosen.ensures.guards
    (subst (λ (b : Arm). WalksBranch tb m (record c.args.guard { when = gs.then }) (view_arm b) mid new) c.get.ensures c.in_ok-walk_arm.ensures.walks)
    (subst (λ (o : Option Arm). WalksOther tb m (record c.args.guard { when = gs.otherwise }) (other_of (option_map view_arm o)) new new) (sym c.in-None.is) refl)

pub walk_if-returns-in-Some-clause-walks : goal.walk_if-returns-in-Some-clause-walks
walk_if-returns-in-Some-clause-walks g t c =
    let tb = g.D.Device.table in
    let m = c.args.machine.now in
    let gs = c.in_ok-chosen.chosen in
    let mid = c.walk_condition.new.out in
    let far = c.walk_arm.new.out in
    let new = c.walk_arm-in-Some.new.out in
    on_ok_weaker c.walk_arm-in-Some.result
    (λ last.
    if_walk tb m c.args.guard gs c.args.choice.now c.is_some.result c.args.out.now mid far new c.is_some.ensures c.in_ok-chosen.ensures.walks c.in_ok-chosen.ensures.guards
    (subst (λ (b : Arm). WalksBranch tb m (record c.args.guard { when = gs.then }) (view_arm b) mid far) c.get.ensures c.in_ok-walk_arm.ensures.walks)
    (subst (λ (o : Option Arm). WalksOther tb m (record c.args.guard { when = gs.otherwise }) (other_of (option_map view_arm o)) far new) (sym c.in-Some.is)
    (subst (λ (b : Arm). WalksBranch tb m (record c.args.guard { when = gs.otherwise }) (view_arm b) far new) c.get-in-Some.ensures last)))
    c.walk_arm-in-Some.ensures.walks

-- ---- CASE

pub walk_case-loop-index-init : goal.walk_case-loop-index-init
walk_case-loop-index-init g t c =
    let tb = g.D.Device.table in
    let m = c.args.machine.now in
    let x = c.args.case.now in
    let mid = c.walk_conditions.new.out in
    let walks = c.in_ok-bits.ensures.walks in
    let keeps = (walks c.args.out.now.before (λ k p. refl)).keeps in
    record {
      walks = λ later k.
          case_walk tb m c.args.guard (case_place x) (case_choices x) c.args.out.now mid later c.requires.guard walks
          (subst (λ (xs : List CaseArm). WalksChoices tb m c.args.guard (view_choices xs) mid later) c.as_slice-arms.ensures k);
      stands = λ later k.
          case_stands tb m c.args.guard (case_place x) (case_choices x) c.args.out.now mid later c.requires.guard walks c.walk_conditions.ensures.stands
          (subst (λ (xs : List CaseArm). StandsChoices tb m c.args.guard (view_choices xs) mid later) c.as_slice-arms.ensures k);
      guard = kept_inside _ _ c.args.guard.when keeps c.requires.guard;
      inside = c.in_ok-bits.ensures.inside;
      bits = λ e.
          subst₂ (λ (xs : List CaseArm) f. AreBits (arena mid.exprs) c.in_ok-bits.bits.items (arm_guards (context_for tb m.scope.now) f xs)) (sym c.as_slice-arms.ensures)
          (sym (kept_formula _ _ c.args.guard.when keeps c.requires.guard)) (c.in_ok-bits.ensures.guards e);
    }

pub walk_case-walk_arm-requires : goal.walk_case-walk_arm-requires
walk_case-walk_arm-requires g t c κs within =
    let v = c.loop-index.invariant in
    (search (rules, the_lemmas), (within, (c.requires.signals, c.under_arm-then.ensures.inside _ v.guard (subst (AreIn (length (arena c.loop-index.out.exprs))) (sym c.deref.ensures.value) v.inside))))

pub walk_case-loop-index-preserved : goal.walk_case-loop-index-preserved
walk_case-loop-index-preserved g t c =
    let tb = g.D.Device.table in
    let m = c.args.machine.now in
    let d = context_for tb m.scope.now in
    let arms = c.as_slice-arms.result.now in
    let ids = c.in_ok-bits.bits.items in
    let outer = c.args.guard in
    let i = c.loop-index.index in
    let x = get_or arms i c.index-arms-index.result in
    let at_x : x ≡ get_or arms i x = ap (λ z. get_or arms i z) c.index-arms-index.is in
    let lt : i < length arms = c.loop-index-test.true in
    let mid = c.loop-index.out in
    let new = c.walk_arm.new.out in
    let hs = arena mid.exprs in
    let ns = arena new.exprs in
    let then = c.under_arm-then in
    let when = then.ensures.when ∙ ap (λ (zs : List ExprId). get_or zs i outer.when) c.deref.ensures.value in
    let rest = map view_choice (drop (i + 1) arms) in
    let v = c.loop-index.invariant in
    let inner = c.in_ok-walk_arm.ensures.walks in
    let keeps = branch_keeps tb m then.result (view_arm x.result) mid new inner in
    record {
      walks = λ later k.
          v.walks later
          (subst (λ (zs : List Choice). WalksChoices tb m outer (choices_of zs) mid later) (sym (rest_at view_choice arms i x lt at_x ∙ ap (λ z. z ∷ rest) (choice_parts x)))
          (choices_walk tb m outer then.result (view x.condition, (x.colon, view_arm x.result)) rest mid new later v.guard
          (λ h e o.
          arm_holds d outer then.result hs arms ids i x (v.bits o) lt at_x when then.ensures.dontcare then.ensures.block
          ∙ ap (λ (z : meant.Guard Formula). meant.guarded (formulas d) z (condition_of d (view x.condition))) (e o))
          inner k));
      stands = λ later k.
          v.stands later
          (subst (λ (zs : List Choice). StandsChoices tb m outer (choices_of zs) mid later) (sym (rest_at view_choice arms i x lt at_x ∙ ap (λ z. z ∷ rest) (choice_parts x)))
          (choices_stand tb m outer then.result (view x.condition, (x.colon, view_arm x.result)) rest mid new later v.guard
          (λ h e o.
          arm_holds d outer then.result hs arms ids i x (v.bits o) lt at_x when then.ensures.dontcare then.ensures.block
          ∙ ap (λ (z : meant.Guard Formula). meant.guarded (formulas d) z (condition_of d (view x.condition))) (e o))
          inner c.walk_arm.ensures.stands k));
      guard = kept_inside hs ns outer.when keeps v.guard;
      inside = λ k z le. kept_inside hs ns (get_or ids k z) keeps (v.inside k z le);
      bits = λ o.
          subst (λ f. AreBits ns ids (arm_guards d f arms)) (sym (kept_formula hs ns outer.when keeps v.guard))
          (bits_kept hs ns ids (arm_guards d (formula_at hs outer.when) arms) keeps (v.bits (branch_clear tb m then.result (view_arm x.result) mid new inner o)));
    }

pub walk_case-returns-clause-walks : goal.walk_case-returns-clause-walks
walk_case-returns-clause-walks g t c =
    c.loop-index.invariant.walks c.loop-index.out
    (subst (λ (xs : List CaseArm). WalksChoices g.D.Device.table c.args.machine.now c.args.guard (view_choices xs) c.loop-index.out c.loop-index.out)
    (sym (drop_all c.loop-index.index c.as_slice-arms.result.now (omega (arith, c.loop-index-test.false)))) (λ h e all a. walks_none all c.loop-index.out a))

pub walk_arm-returns-in-Goal-clause-stands : goal.walk_arm-returns-in-Goal-clause-stands
walk_arm-returns-in-Goal-clause-stands g t c =
    subst (λ (b : Branch). StandsBranch g.D.Device.table c.args.machine.now c.args.guard b c.args.out.now c.walk_goal.new.out) (sym (ap view_arm c.in-Goal.is ∙ view_goaled c.in-Goal.goal)) c.walk_goal.ensures.stands

pub walk_arm-returns-in-If-clause-stands : goal.walk_arm-returns-in-If-clause-stands
walk_arm-returns-in-If-clause-stands g t c =
    subst (λ (b : Branch). StandsBranch g.D.Device.table c.args.machine.now c.args.guard b c.args.out.now c.walk_if.new.out) (sym (ap view_arm c.in-If.is ∙ view_iffed c.in-If.choice)) c.walk_if.ensures.stands

pub walk_arm-returns-in-Case-clause-stands : goal.walk_arm-returns-in-Case-clause-stands
walk_arm-returns-in-Case-clause-stands g t c =
    subst (λ (b : Branch). StandsBranch g.D.Device.table c.args.machine.now c.args.guard b c.args.out.now c.walk_case.new.out) (sym (ap view_arm c.in-Case.is ∙ view_cased c.in-Case.case)) c.walk_case.ensures.stands

pub walk_if-returns-in_err-chosen-clause-stands : goal.walk_if-returns-in_err-chosen-clause-stands
walk_if-returns-in_err-chosen-clause-stands g t c = λ h e. nothing_given _ _ c.args.out.now c.walk_condition.new.out c.walk_condition.ensures.stands

pub walk_if-returns-in_err-walk_arm-clause-stands : goal.walk_if-returns-in_err-walk_arm-clause-stands
walk_if-returns-in_err-walk_arm-clause-stands g t c =
    let tb = g.D.Device.table in
    let m = c.args.machine.now in
    let gs = c.in_ok-chosen.chosen in
    let mid = c.walk_condition.new.out in
    let new = c.walk_arm.new.out in
    if_ends tb m c.args.guard gs c.args.choice.now c.is_some.result c.args.out.now mid new c.is_some.ensures c.in_ok-chosen.ensures.walks c.in_ok-chosen.ensures.guards c.walk_condition.ensures.stands
    (subst (λ (b : Arm). StandsBranch tb m (record c.args.guard { when = gs.then }) (view_arm b) mid new) c.get.ensures c.walk_arm.ensures.stands)

pub walk_if-returns-in-None-clause-stands : goal.walk_if-returns-in-None-clause-stands
walk_if-returns-in-None-clause-stands g t c =
    let tb = g.D.Device.table in
    let m = c.args.machine.now in
    let gs = c.in_ok-chosen.chosen in
    let mid = c.walk_condition.new.out in
    let new = c.walk_arm.new.out in
    if_ends tb m c.args.guard gs c.args.choice.now c.is_some.result c.args.out.now mid new c.is_some.ensures c.in_ok-chosen.ensures.walks c.in_ok-chosen.ensures.guards c.walk_condition.ensures.stands
    (subst (λ (b : Arm). StandsBranch tb m (record c.args.guard { when = gs.then }) (view_arm b) mid new) c.get.ensures c.walk_arm.ensures.stands)

pub walk_if-returns-in-Some-clause-stands : goal.walk_if-returns-in-Some-clause-stands
walk_if-returns-in-Some-clause-stands g t c =
    let tb = g.D.Device.table in
    let m = c.args.machine.now in
    let gs = c.in_ok-chosen.chosen in
    let mid = c.walk_condition.new.out in
    let far = c.walk_arm.new.out in
    let new = c.walk_arm-in-Some.new.out in
    if_stands tb m c.args.guard gs c.args.choice.now c.is_some.result c.args.out.now mid far new c.is_some.ensures c.in_ok-chosen.ensures.walks c.in_ok-chosen.ensures.guards c.walk_condition.ensures.stands
    (subst (λ (b : Arm). StandsBranch tb m (record c.args.guard { when = gs.then }) (view_arm b) mid far) c.get.ensures c.walk_arm.ensures.stands)
    (subst (λ (b : Arm). WalksBranch tb m (record c.args.guard { when = gs.then }) (view_arm b) mid far) c.get.ensures c.in_ok-walk_arm.ensures.walks)
    (subst (λ (o : Option Arm). StandsOther tb m (record c.args.guard { when = gs.otherwise }) (other_of (option_map view_arm o)) far new) (sym c.in-Some.is)
    (subst (λ (b : Arm). StandsBranch tb m (record c.args.guard { when = gs.otherwise }) (view_arm b) far new) c.get-in-Some.ensures c.walk_arm-in-Some.ensures.stands))

pub walk_case-returns-in_err-bits-clause-stands : goal.walk_case-returns-in_err-bits-clause-stands
walk_case-returns-in_err-bits-clause-stands g t c = λ h e. nothing_given _ _ c.args.out.now c.walk_conditions.new.out c.walk_conditions.ensures.stands

pub walk_case-returns-in_err-walk_arm-clause-stands : goal.walk_case-returns-in_err-walk_arm-clause-stands
walk_case-returns-in_err-walk_arm-clause-stands g t c =
    let tb = g.D.Device.table in
    let m = c.args.machine.now in
    let d = context_for tb m.scope.now in
    let arms = c.as_slice-arms.result.now in
    let ids = c.in_ok-bits.bits.items in
    let outer = c.args.guard in
    let i = c.loop-index.index in
    let x = get_or arms i c.index-arms-index.result in
    let at_x : x ≡ get_or arms i x = ap (λ z. get_or arms i z) c.index-arms-index.is in
    let lt : i < length arms = c.loop-index-test.true in
    let mid = c.loop-index.out in
    let new = c.walk_arm.new.out in
    let hs = arena mid.exprs in
    let then = c.under_arm-then in
    let when = then.ensures.when ∙ ap (λ (zs : List ExprId). get_or zs i outer.when) c.deref.ensures.value in
    let rest = map view_choice (drop (i + 1) arms) in
    let v = c.loop-index.invariant in
    v.stands new
    (subst (λ (zs : List Choice). StandsChoices tb m outer (choices_of zs) mid new) (sym (rest_at view_choice arms i x lt at_x ∙ ap (λ z. z ∷ rest) (choice_parts x)))
    (choices_end tb m outer then.result (view x.condition, (x.colon, view_arm x.result)) rest mid new
    (λ h e o.
    arm_holds d outer then.result hs arms ids i x (v.bits o) lt at_x when then.ensures.dontcare then.ensures.block
    ∙ ap (λ (z : meant.Guard Formula). meant.guarded (formulas d) z (condition_of d (view x.condition))) (e o))
    c.walk_arm.ensures.stands))

pub walk_case-returns-clause-stands : goal.walk_case-returns-clause-stands
walk_case-returns-clause-stands g t c =
    c.loop-index.invariant.stands c.loop-index.out
    (subst (λ (xs : List CaseArm). StandsChoices g.D.Device.table c.args.machine.now c.args.guard (view_choices xs) c.loop-index.out c.loop-index.out)
    (sym (drop_all c.loop-index.index c.as_slice-arms.result.now (omega (arith, c.loop-index-test.false)))) (λ h e. stands_same _ _ c.loop-index.out c.loop-index.out refl))
