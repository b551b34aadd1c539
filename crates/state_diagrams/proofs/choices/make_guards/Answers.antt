-- One guard more, and all guards.
use Rattle.std.proofs.Common.{◌≡◌, ◌+◌, ◌++◌, List, [], ◌∷◌, Ok, Err, map, take, drop, refl, sym, ap, ◌∙◌, subst, arith}
use Rattle.state_diagrams.proofs.Common.{drop_all, err_from_is_err_and, take-length, arena, formula_at, ExprId, CaseArm, choices_of, view, view_choice, condition_of, guard_then, front_more, NoMemory, AreBits, IsBit, context_for, kept_formula, kept_inside, keeps_on, leaves_nodes, at, arm_guards, BuildsConditions, case_place, view_choices, choices_refused}
use Rattle.state_diagrams.proofs.GuardLaws.{Choice, arm_clear, conditions_stop, conditions_then, no_nodes}
use Rattle.state_diagrams.proofs.StateBits.{bits_kept, bits_more}
use Rattle.state_diagrams.proofs.WalkedBranches.{rest_at}
use Rattle.state_diagrams.proofs.choices.make_guards.Goals as goal

pub loop-arm-init : goal.loop-arm-init
loop-arm-init g c =
    record {
      keeps = λ i f e. e;
      built = λ later r k. k;
      guards = subst (λ (ids : List ExprId). AreBits (arena c.args.exprs.now) ids []) (sym c.new-guards.ensures.items) (λ i x lt. absurd (omega (arith, lt)), refl);
    }

pub then_guard-requires : goal.then_guard-requires
then_guard-requires g c =
    let n = c.args.scope.now in
    let d = context_for g.D.Device.table n in
    record {
      guard = kept_inside _ _ c.args.guard c.loop-arm.invariant.keeps c.requires.guard;
      accepted = arm_clear d n c.as_slice-arm-items.result.now c.loop-arm.arm-index c.arm-item.result refl
          (subst (λ (xs : List CaseArm). choices_refused d (view_choices xs) ≡ []) (sym c.as_slice-arm-items.ensures) c.requires.accepted) c.loop-arm-test.true c.arm-item.is;
    }

pub loop-arm-preserved : goal.loop-arm-preserved
loop-arm-preserved g c =
    let d = context_for g.D.Device.table c.args.scope.now in
    let arms = c.as_slice-arm-items.result.now in
    let i = c.loop-arm.arm-index in
    let x = c.arm-item.result in
    let v = c.loop-arm.invariant in
    let fs = arena c.args.exprs.now in
    let hs = arena c.loop-arm.exprs in
    let ns = arena c.then_guard.new.exprs in
    let gf = formula_at fs c.args.guard in
    let same : formula_at hs c.args.guard ≡ gf = kept_formula fs hs c.args.guard v.keeps c.requires.guard in
    let guard_of = λ (y : CaseArm). (guard_then gf (condition_of d (view y.condition))).what in
    record {
      keeps = keeps_on _ _ _ v.keeps c.in_ok-chosen.ensures.keeps;
      built = λ later r k.
          v.built later r
          (subst (λ (zs : List Choice). BuildsConditions d gf (case_place c.args.case.now) (choices_of zs) c.loop-arm.exprs later r) (sym (rest_at view_choice arms i x c.loop-arm-test.true c.arm-item.is))
          (λ list. conditions_then d gf (formula_at hs c.args.guard) (case_place c.args.case.now) x (map view_choice (drop (i + 1) arms)) (at c.loop-arm.exprs list) (at c.then_guard.new.exprs list) (at later list) r same (c.in_ok-chosen.ensures.builds list) (k list)));
      guards =
          subst (λ zs. AreBits ns c.push.new.self.items zs) (sym (front_more guard_of arms i x c.loop-arm-test.true c.arm-item.is))
          (subst (λ (ids : List ExprId). AreBits ns ids (map guard_of (take i arms) ++ guard_of x ∷ [])) (sym c.in_ok-push.ensures.items)
          (bits_more ns c.loop-arm.guards.items (map guard_of (take i arms)) c.in_ok-chosen.chosen.then (guard_of x) (bits_kept hs ns c.loop-arm.guards.items (map guard_of (take i arms)) c.in_ok-chosen.ensures.keeps v.guards)
          (subst (λ f. IsBit ns c.in_ok-chosen.chosen.then (guard_then f (condition_of d (view x.condition))).what) same c.in_ok-chosen.ensures.then)));
    }

pub returns-in_err-chosen-clause-builds : goal.returns-in_err-chosen-clause-builds
returns-in_err-chosen-clause-builds g c =
    let p = err_from_is_err_and c.from_residual.result c.from_residual.ensures.1 in
    let d = context_for g.D.Device.table c.args.scope.now in
    let arms = c.as_slice-arm-items.result.now in
    let i = c.loop-arm.arm-index in
    let x = c.arm-item.result in
    let v = c.loop-arm.invariant in
    let fs = arena c.args.exprs.now in
    let hs = arena c.loop-arm.exprs in
    let gf = formula_at fs c.args.guard in
    let f = c.in_err-chosen.field-0.0 in
    let new = c.then_guard.new.exprs in
    let same : formula_at hs c.args.guard ≡ gf = kept_formula fs hs c.args.guard v.keeps c.requires.guard in
    rw (p.1, p.2)
    (subst (λ (xs : List CaseArm). BuildsConditions {R = Unit} d gf (case_place c.args.case.now) (view_choices xs) c.args.exprs.now new (Err f)) c.as_slice-arm-items.ensures
    (v.built new (Err f)
    (subst (λ (zs : List Choice). BuildsConditions {R = Unit} d gf (case_place c.args.case.now) (choices_of zs) c.loop-arm.exprs new (Err f)) (sym (rest_at view_choice arms i x c.loop-arm-test.true c.arm-item.is))
    (λ list. conditions_stop d gf (formula_at hs c.args.guard) (case_place c.args.case.now) x (map view_choice (drop (i + 1) arms)) (at c.loop-arm.exprs list) (at new list) f same (c.in_err-chosen.ensures.builds list)))))

pub returns-clause-builds : goal.returns-clause-builds
returns-clause-builds g c =
    let d = context_for g.D.Device.table c.args.scope.now in
    let gf = formula_at (arena c.args.exprs.now) c.args.guard in
    let arms = c.as_slice-arm-items.result.now in
    subst (λ (xs : List CaseArm). BuildsConditions {R = Unit} d gf (case_place c.args.case.now) (view_choices xs) c.args.exprs.now c.loop-arm.exprs (Ok tt)) c.as_slice-arm-items.ensures
    (c.loop-arm.invariant.built c.loop-arm.exprs (Ok tt)
    (subst (λ (xs : List CaseArm). BuildsConditions {R = Unit} d gf (case_place c.args.case.now) (view_choices xs) c.loop-arm.exprs c.loop-arm.exprs (Ok tt)) (sym (drop_all c.loop-arm.arm-index arms (omega (arith, c.loop-arm-test.false))))
    (λ list. no_nodes (case_place c.args.case.now) (at c.loop-arm.exprs list))))

pub returns-clause-guards : goal.returns-clause-guards
returns-clause-guards g c =
    subst (λ (xs : List CaseArm). AreBits (arena c.loop-arm.exprs) c.loop-arm.guards.items (arm_guards (context_for g.D.Device.table c.args.scope.now) (formula_at (arena c.args.exprs.now) c.args.guard) xs))
    (ap (λ n. take n c.as_slice-arm-items.result.now) (omega (arith, c.loop-arm-test.false, c.loop-arm.auto.arm-index-end)) ∙ take-length c.as_slice-arm-items.result.now ∙ c.as_slice-arm-items.ensures) c.loop-arm.invariant.guards

pub returns-in_err-push-clause-builds : goal.returns-in_err-push-clause-builds
returns-in_err-push-clause-builds g c = λ list.
    let p = err_from_is_err_and c.from_residual-in_err-push.result c.from_residual-in_err-push.ensures.1 in
    rw (p.1, p.2) (NoMemory refl, leaves_nodes c.args.exprs.now c.then_guard.new.exprs list (keeps_on _ _ _ c.loop-arm.invariant.keeps c.in_ok-chosen.ensures.keeps))
