-- An assignment that is refused or follows what is, and one that is made.
use Rattle.std.proofs.Common.{refl, sym, ap, ◌∙◌, subst}
use Rattle.equations.proofs.Common.{on_ok_weaker, target_extension, view, context_for, expression_found, Walked, left_side, standing, none_so_far, stands_made, stands_same, GivesAssign, assign_refused}
use Rattle.equations.proofs.BuiltParts.{value_accepted}
use Rattle.equations.proofs.BuiltUnits.{accepted_assign}
use Rattle.equations.proofs.WalkedUnits.{noted_clear, noted_made, noted_refused}
use Rattle.equations.proofs.walking.walk_assign.Goals as goal

pub returns-then-refuse-clause-walks : goal.returns-then-refuse-clause-walks
returns-then-refuse-clause-walks g c = λ all a.
    noted_refused all _ _ _ _ c.in_ok-fault.fault _ c.args.out.now c.refuse.new.self
    (c.in_ok-fault.ensures.fault all a) c.refuse.ensures.first (sym c.refuse.ensures.refused ∙ c.if-refuse.true) (c.in_ok-fault.ensures.before all a)

pub give_assign-made-requires-clause-accepted : goal.give_assign-made-requires-clause-accepted
give_assign-made-requires-clause-accepted g c =
    let n = c.args.scope.now in
    let d = context_for g.D.Device.table n in
    let x = c.args.assign.now in
    let old = c.args.out.now in
    let target = left_side d x.place (view x.target) in
    let value = expression_found d.names (view x.value) in
    let rs = assign_refused d old.before (target_extension (view x.target)) x.complement x.sign x.sign_place target value in
    let clear = noted_clear rs c.in_ok-fault.fault old c.refuse.new.self (c.in_ok-fault.ensures.fault old.before (λ s p. refl)) (ap (λ (w : Walked). w.fault) c.refuse.ensures.first) (sym c.refuse.ensures.refused ∙ c.if-refuse.false) in
    let parts = accepted_assign d old.before (target_extension (view x.target)) x.complement x.sign x.sign_place target value clear.1.1 in
    record { value = value_accepted n (view x.value) parts.1; target = parts.0 }

pub returns-clause-walks : goal.returns-clause-walks
returns-clause-walks g c =
    on_ok_weaker c.keep_limit.result
    (λ k all a.
    let kept = c.refuse.ensures.first in
    let new = c.give_assign-made.new.out in
    let gives = subst (λ (w : Walked). GivesAssign g.D.Device.table c.args.scope.now c.args.guard c.args.assign.now w new c.give_assign-made.result) kept c.give_assign-made.ensures.gives in
    noted_made all _ c.args.assign.now.place _ _ _ _ c.in_ok-fault.fault _ c.args.out.now c.refuse.new.self new c.keep_limit.new.self c.give_assign-made.result
    (c.in_ok-fault.ensures.fault all a) kept (sym c.refuse.ensures.refused ∙ c.if-refuse.false) (c.in_ok-fault.ensures.before all a)
    c.give_assign-made.ensures.fault c.give_assign-made.ensures.before gives k)
    c.keep_limit.ensures.kept

pub returns-in_err-fault-clause-stands : goal.returns-in_err-fault-clause-stands
returns-in_err-fault-clause-stands g c = stands_same _ _ c.args.out.now _ refl

pub returns-then-refuse-clause-stands : goal.returns-then-refuse-clause-stands
returns-then-refuse-clause-stands g c = stands_same _ _ c.args.out.now c.refuse.new.self (ap standing c.refuse.ensures.first)

pub returns-clause-stands : goal.returns-clause-stands
returns-clause-stands g c =
    let kept = c.refuse.ensures.first in
    let new = c.give_assign-made.new.out in
    stands_made _ _ _ c.args.out.now new c.keep_limit.new.self c.give_assign-made.result
    (none_so_far c.args.out.now.fault c.in_ok-fault.fault c.refuse.new.self (ap (λ (w : Walked). w.fault) kept) (sym c.refuse.ensures.refused ∙ c.if-refuse.false))
    (subst (λ (w : Walked). GivesAssign g.D.Device.table c.args.scope.now c.args.guard c.args.assign.now w new c.give_assign-made.result) kept c.give_assign-made.ensures.gives)
    c.keep_limit.ensures.stands
