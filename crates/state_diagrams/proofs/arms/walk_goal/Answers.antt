-- A goal alone, and one with statements.
use Rattle.std.proofs.Common.{List, Option, refl, sym, subst}
use Rattle.state_diagrams.proofs.Common.{on_ok_weaker, Stmt, kept_inside, StandsStatements, WalksStatements, stands_same, view_list, walks_none}
use Rattle.state_diagrams.proofs.StandingParts.{goal_ends, goal_stands}
use Rattle.state_diagrams.proofs.WalkedBranches.{goal_walk, with_list}
use Rattle.state_diagrams.proofs.arms.walk_goal.Goals as goal

pub walk_statements-requires : goal.walk_statements-requires
walk_statements-requires g c = record { guard = kept_inside _ _ c.args.guard.when (c.in_ok-walk_value.ensures.walks c.args.out.now.before (λ s p. refl)).keeps c.requires.guard }

pub returns-in-None-clause-walks : goal.returns-in-None-clause-walks
returns-in-None-clause-walks g c =
    let t = g.D.Device.table in
    let m = c.args.machine.now in
    let new = c.walk_value.new.out in
    goal_walk t m c.args.guard c.args.goal.now c.args.out.now new new c.requires.guard c.in_ok-walk_value.ensures.walks
    (subst (λ (o : Option (List Stmt)). WalksStatements t m.scope.now c.args.guard (with_list o) new new) (sym c.in-None.is) (λ all f. walks_none all new f))

pub returns-in-Some-clause-walks : goal.returns-in-Some-clause-walks
returns-in-Some-clause-walks g c =
    let t = g.D.Device.table in
    let m = c.args.machine.now in
    let mid = c.walk_value.new.out in
    let new = c.walk_statements.new.out in
    on_ok_weaker c.walk_statements.result
    (λ k.
    goal_walk t m c.args.guard c.args.goal.now c.args.out.now mid new c.requires.guard c.in_ok-walk_value.ensures.walks
    (subst (λ (o : Option (List Stmt)). WalksStatements t m.scope.now c.args.guard (with_list o) mid new) (sym c.in-Some.is)
    (subst (λ (xs : List Stmt). WalksStatements t m.scope.now c.args.guard (view_list xs) mid new) c.as_slice.ensures k)))
    c.walk_statements.ensures.walks

pub returns-in_err-walk_value-clause-stands : goal.returns-in_err-walk_value-clause-stands
returns-in_err-walk_value-clause-stands g c = goal_ends g.D.Device.table c.args.machine.now c.args.guard c.args.goal.now c.args.out.now c.walk_value.new.out c.walk_value.ensures.stands

pub returns-in-None-clause-stands : goal.returns-in-None-clause-stands
returns-in-None-clause-stands g c =
    let t = g.D.Device.table in
    let m = c.args.machine.now in
    let new = c.walk_value.new.out in
    goal_stands t m c.args.guard c.args.goal.now c.args.out.now new new c.requires.guard c.in_ok-walk_value.ensures.walks c.walk_value.ensures.stands
    (subst (λ (o : Option (List Stmt)). StandsStatements t m.scope.now c.args.guard (with_list o) new new) (sym c.in-None.is) (stands_same _ _ new new refl))

pub returns-in-Some-clause-stands : goal.returns-in-Some-clause-stands
returns-in-Some-clause-stands g c =
    let t = g.D.Device.table in
    let m = c.args.machine.now in
    let mid = c.walk_value.new.out in
    let new = c.walk_statements.new.out in
    goal_stands t m c.args.guard c.args.goal.now c.args.out.now mid new c.requires.guard c.in_ok-walk_value.ensures.walks c.walk_value.ensures.stands
    (subst (λ (o : Option (List Stmt)). StandsStatements t m.scope.now c.args.guard (with_list o) mid new) (sym c.in-Some.is)
    (subst (λ (xs : List Stmt). StandsStatements t m.scope.now c.args.guard (view_list xs) mid new) c.as_slice.ensures c.walk_statements.ensures.stands))
