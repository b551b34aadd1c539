-- A value that is refused or follows what is, and one that is made.
use Rattle.std.proofs.Common.{[], ◌++◌, length, refl, sym, ap, ◌∙◌, subst}
use Rattle.state_diagrams.proofs.Common.{on_ok_weaker, arena, Names, entries_of, view, value_nodes, expression_found, view_guard, Walked, Builds, context_for, value_refused, value_width, standing, none_so_far, stands_made, stands_same, left_empty, value_accepted, whole, unit_clear, unit_made, unit_refused, goal_unit}
use Rattle.set_expr.specs.KnownNames.{SumsUp}
use Rattle.state_diagrams.proofs.goals.walk_value.Goals as goal

pub returns-then-refuse-clause-walks : goal.returns-then-refuse-clause-walks
returns-then-refuse-clause-walks g c = λ all a.
    let m = c.args.machine.now in
    let d = context_for g.D.Device.table m.scope.now in
    let x = c.args.goal.now in
    let xs = m.registers.now in
    let old = c.args.out.now in
    let f = expression_found d.names (view x.value) in
    let rs = value_refused x.place (length xs) f in
    let w = goal_unit d (view_guard (arena old.exprs) c.args.guard) xs x rs in
    unit_refused all (whole x.place rs (value_nodes d (view_guard (arena old.exprs) c.args.guard).holds (length xs) (view x.value))) w.gives w.places c.refuse_value-fault.result old c.refuse.new.self
    (c.refuse_value-fault.ensures f (subst (λ (k : Names). SumsUp c.in_ok-value.value (expression_found (entries_of k) (view x.value))) c.scope.ensures c.in_ok-value.ensures)) c.refuse.ensures.first (sym c.refuse.ensures.refused ∙ c.if-refuse.true) a

pub give_goal-made-requires-clause-accepted : goal.give_goal-made-requires-clause-accepted
give_goal-made-requires-clause-accepted g c =
    let m = c.args.machine.now in
    let n = m.scope.now in
    let x = c.args.goal.now in
    let k = length m.registers.now in
    let f = expression_found (entries_of n) (view x.value) in
    let clear = unit_clear (value_refused x.place k f) c.refuse_value-fault.result c.args.out.now c.refuse.new.self (c.refuse_value-fault.ensures f (subst (λ (k : Names). SumsUp c.in_ok-value.value (expression_found (entries_of k) (view x.value))) c.scope.ensures c.in_ok-value.ensures)) c.refuse.ensures.first (sym c.refuse.ensures.refused ∙ c.if-refuse.false) in
    value_accepted n (view x.value) (left_empty f.refusals (f.specials ++ value_width x.place k f.value) clear.1.1)

pub returns-clause-walks : goal.returns-clause-walks
returns-clause-walks g c =
    on_ok_weaker c.keep_limit.result
    (λ k all a.
    let m = c.args.machine.now in
    let d = context_for g.D.Device.table m.scope.now in
    let x = c.args.goal.now in
    let xs = m.registers.now in
    let old = c.args.out.now in
    let made = c.give_goal-made.new.out in
    let h = view_guard (arena old.exprs) c.args.guard in
    let f = expression_found d.names (view x.value) in
    let rs = value_refused x.place (length xs) f in
    let w = goal_unit d h xs x rs in
    let here = subst (λ (y : Walked). Builds (goal_unit d (view_guard (arena y.exprs) c.args.guard) xs x []).units (goal_unit d (view_guard (arena y.exprs) c.args.guard) xs x []).gives w.places (standing y) (standing made) c.give_goal-made.result) c.refuse.ensures.first c.give_goal-made.ensures.gives in
    unit_made all x.place rs (value_nodes d h.holds (length xs) (view x.value)) w.gives w.places c.refuse_value-fault.result old c.refuse.new.self made c.keep_limit.new.self c.give_goal-made.result
    (c.refuse_value-fault.ensures f (subst (λ (k : Names). SumsUp c.in_ok-value.value (expression_found (entries_of k) (view x.value))) c.scope.ensures c.in_ok-value.ensures)) c.refuse.ensures.first (sym c.refuse.ensures.refused ∙ c.if-refuse.false) a
    c.give_goal-made.ensures.fault c.give_goal-made.ensures.before here k)
    c.keep_limit.ensures.kept

pub returns-in_err-value-clause-stands : goal.returns-in_err-value-clause-stands
returns-in_err-value-clause-stands g c = stands_same _ _ c.args.out.now c.args.out.now refl

pub returns-then-refuse-clause-stands : goal.returns-then-refuse-clause-stands
returns-then-refuse-clause-stands g c = stands_same _ _ c.args.out.now c.refuse.new.self (ap standing c.refuse.ensures.first)

pub returns-clause-stands : goal.returns-clause-stands
returns-clause-stands g c =
    let m = c.args.machine.now in
    let d = context_for g.D.Device.table m.scope.now in
    let x = c.args.goal.now in
    let xs = m.registers.now in
    let old = c.args.out.now in
    let made = c.give_goal-made.new.out in
    let w = goal_unit d (view_guard (arena old.exprs) c.args.guard) xs x [] in
    let here = subst (λ (y : Walked). Builds (goal_unit d (view_guard (arena y.exprs) c.args.guard) xs x []).units (goal_unit d (view_guard (arena y.exprs) c.args.guard) xs x []).gives w.places (standing y) (standing made) c.give_goal-made.result) c.refuse.ensures.first c.give_goal-made.ensures.gives in
    stands_made w.units w.gives w.places old made c.keep_limit.new.self c.give_goal-made.result
    (none_so_far old.fault c.refuse_value-fault.result c.refuse.new.self (ap (λ (y : Walked). y.fault) c.refuse.ensures.first) (sym c.refuse.ensures.refused ∙ c.if-refuse.false)) here c.keep_limit.ensures.stands
