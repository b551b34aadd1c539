-- One transition more, and all of them.
use Rattle.std.proofs.Common.{◌+◌, List, drop, refl, sym, subst, arith}
use Rattle.state_diagrams.proofs.Common.{drop_all, Arm, Branch, view_arm, kept_inside, walks_none, view_arms, StandsBranches, WalksBranches, stands_same}
use Rattle.state_diagrams.proofs.StandingParts.{branches_end, branches_stand}
use Rattle.state_diagrams.proofs.WalkedBranches.{branch_keeps, branches_walk, rest_at}
use Rattle.state_diagrams.proofs.arms.walk_arms.Goals as goal

pub loop-arm-preserved : goal.loop-arm-preserved
loop-arm-preserved g c =
    let t = g.D.Device.table in
    let m = c.args.machine.now in
    let list = c.args.arms.now in
    let i = c.loop-arm.arm-index in
    let b = view_arm c.arm-item.result in
    let mid = c.loop-arm.out in
    let new = c.walk_arm.new.out in
    let v = c.loop-arm.invariant in
    record {
      guard = kept_inside _ _ c.args.guard.when (branch_keeps t m c.args.guard b mid new c.in_ok-walk_arm.ensures.walks) v.guard;
      walks = λ later k.
          v.walks later
          (subst (λ (bs : List Branch). WalksBranches t m c.args.guard bs mid later) (sym (rest_at view_arm list i c.arm-item.result c.loop-arm-test.true c.arm-item.is))
          (branches_walk t m c.args.guard b (view_arms (drop (i + 1) list)) mid new later v.guard c.in_ok-walk_arm.ensures.walks k));
      stands = λ later k.
          v.stands later
          (subst (λ (bs : List Branch). StandsBranches t m c.args.guard bs mid later) (sym (rest_at view_arm list i c.arm-item.result c.loop-arm-test.true c.arm-item.is))
          (branches_stand t m c.args.guard b (view_arms (drop (i + 1) list)) mid new later v.guard c.in_ok-walk_arm.ensures.walks c.walk_arm.ensures.stands k));
    }

pub returns-clause-walks : goal.returns-clause-walks
returns-clause-walks g c =
    c.loop-arm.invariant.walks c.loop-arm.out
    (subst (λ (xs : List Arm). WalksBranches g.D.Device.table c.args.machine.now c.args.guard (view_arms xs) c.loop-arm.out c.loop-arm.out)
    (sym (drop_all c.loop-arm.arm-index c.args.arms.now (omega (arith, c.loop-arm-test.false)))) (λ h e all a. walks_none all c.loop-arm.out a))

pub returns-in_err-walk_arm-clause-stands : goal.returns-in_err-walk_arm-clause-stands
returns-in_err-walk_arm-clause-stands g c =
    let t = g.D.Device.table in
    let m = c.args.machine.now in
    let list = c.args.arms.now in
    let i = c.loop-arm.arm-index in
    let b = view_arm c.arm-item.result in
    let mid = c.loop-arm.out in
    let new = c.walk_arm.new.out in
    c.loop-arm.invariant.stands new
    (subst (λ (bs : List Branch). StandsBranches t m c.args.guard bs mid new) (sym (rest_at view_arm list i c.arm-item.result c.loop-arm-test.true c.arm-item.is))
    (branches_end t m c.args.guard b (view_arms (drop (i + 1) list)) mid new c.walk_arm.ensures.stands))

pub returns-clause-stands : goal.returns-clause-stands
returns-clause-stands g c =
    c.loop-arm.invariant.stands c.loop-arm.out
    (subst (λ (xs : List Arm). StandsBranches g.D.Device.table c.args.machine.now c.args.guard (view_arms xs) c.loop-arm.out c.loop-arm.out)
    (sym (drop_all c.loop-arm.arm-index c.args.arms.now (omega (arith, c.loop-arm-test.false)))) (λ h e. stands_same _ _ c.loop-arm.out c.loop-arm.out refl))
