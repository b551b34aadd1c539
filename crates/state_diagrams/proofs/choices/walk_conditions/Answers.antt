-- Conditions that are refused or follow what is, and those whose guards are made.
use Rattle.std.proofs.Common.{[], ◌∷◌, Ok, Err, refl, sym, ap, ◌∙◌, subst}
use Rattle.state_diagrams.proofs.Common.{arena, formula_at, context_for, Walked, AreBits, Builds, standing, part, choices_nodes, none_so_far, stands_made, stands_same, limit_kept, unit_clear, unit_refused, arm_guards, case_unit, case_arms, case_choices, case_place, choices_refused}
use Rattle.state_diagrams.proofs.GuardLaws.{conditions_made}
use Rattle.state_diagrams.proofs.choices.walk_conditions.Goals as goal

pub returns-then-refuse-clause-walks : goal.returns-then-refuse-clause-walks
returns-then-refuse-clause-walks g c = λ all a.
    let d = context_for g.D.Device.table c.args.scope.now in
    let x = c.args.case.now in
    unit_refused all (case_unit d (formula_at (arena c.args.out.now.exprs) c.args.guard) (case_place x) (case_choices x)) [] [] c.in_ok-fault.fault c.args.out.now c.refuse.new.self
    c.in_ok-fault.ensures c.refuse.ensures.first (sym c.refuse.ensures.refused ∙ c.if-refuse.true) a

pub make_guards-requires-clause-accepted : goal.make_guards-requires-clause-accepted
make_guards-requires-clause-accepted g c =
    let d = context_for g.D.Device.table c.args.scope.now in
    (unit_clear (choices_refused d (case_choices c.args.case.now)) c.in_ok-fault.fault c.args.out.now c.refuse.new.self c.in_ok-fault.ensures c.refuse.ensures.first (sym c.refuse.ensures.refused ∙ c.if-refuse.false)).1.1

pub returns-in-Ok-clause-walks : goal.returns-in-Ok-clause-walks
returns-in-Ok-clause-walks g c =
    let x = c.args.case.now in
    let ns = c.make_guards.new.exprs in
    conditions_made (context_for g.D.Device.table c.args.scope.now) c.args.guard (case_place x) (case_choices x) c.in_ok-fault.fault c.args.out.now c.refuse.new.self (record c.refuse.new.self { exprs = ns }) ns (Ok tt)
    c.in_ok-fault.ensures c.refuse.ensures.first (sym c.refuse.ensures.refused ∙ c.if-refuse.false) c.in-Ok.ensures.builds refl

pub returns-in-Ok-clause-guards : goal.returns-in-Ok-clause-guards
returns-in-Ok-clause-guards g c = λ e.
    subst (λ (w : Walked). AreBits (arena c.make_guards.new.exprs) c.in-Ok.guards.items (arm_guards (context_for g.D.Device.table c.args.scope.now) (formula_at (arena w.exprs) c.args.guard) (case_arms c.args.case.now))) c.refuse.ensures.first c.in-Ok.ensures.guards

pub returns-in_ok-keep_limit-in-Err-clause-walks : goal.returns-in_ok-keep_limit-in-Err-clause-walks
returns-in_ok-keep_limit-in-Err-clause-walks g c =
    let x = c.args.case.now in
    conditions_made (context_for g.D.Device.table c.args.scope.now) c.args.guard (case_place x) (case_choices x) c.in_ok-fault.fault c.args.out.now c.refuse.new.self c.keep_limit.new.self c.make_guards.new.exprs (Err c.in-Err.fault)
    c.in_ok-fault.ensures c.refuse.ensures.first (sym c.refuse.ensures.refused ∙ c.if-refuse.false) c.in-Err.ensures.builds c.in_ok-keep_limit-in-Err.ensures.kept

pub returns-in_ok-keep_limit-in-Err-clause-guards : goal.returns-in_ok-keep_limit-in-Err-clause-guards
returns-in_ok-keep_limit-in-Err-clause-guards g c = λ e. absurd (limit_kept c.in-Err.fault (record c.refuse.new.self { exprs = c.make_guards.new.exprs }) c.keep_limit.new.self c.in_ok-keep_limit-in-Err.ensures.kept e)

pub returns-in_err-fault-clause-stands : goal.returns-in_err-fault-clause-stands
returns-in_err-fault-clause-stands g c = stands_same [] [] c.args.out.now c.args.out.now refl

pub returns-then-refuse-clause-stands : goal.returns-then-refuse-clause-stands
returns-then-refuse-clause-stands g c = stands_same [] [] c.args.out.now c.refuse.new.self (ap standing c.refuse.ensures.first)

pub returns-in-Ok-clause-stands : goal.returns-in-Ok-clause-stands
returns-in-Ok-clause-stands g c =
    let d = context_for g.D.Device.table c.args.scope.now in
    let x = c.args.case.now in
    let old = c.args.out.now in
    let now = c.refuse.new.self in
    let made : Walked = record now { exprs = c.make_guards.new.exprs } in
    stands_made {R = Unit} _ [] [] old made made (Ok tt) (none_so_far old.fault c.in_ok-fault.fault now (ap (λ (w : Walked). w.fault) c.refuse.ensures.first) (sym c.refuse.ensures.refused ∙ c.if-refuse.false))
    (subst (λ (w : Walked). Builds {R = Unit} (part (case_place x) (choices_nodes d (formula_at (arena w.exprs) c.args.guard) (case_choices x)) ∷ []) [] [] (standing w) (standing made) (Ok tt)) c.refuse.ensures.first (c.in-Ok.ensures.builds now.list.items)) refl

pub returns-in_err-keep_limit-in-Err-clause-stands : goal.returns-in_err-keep_limit-in-Err-clause-stands
returns-in_err-keep_limit-in-Err-clause-stands g c =
    let d = context_for g.D.Device.table c.args.scope.now in
    let x = c.args.case.now in
    let old = c.args.out.now in
    let now = c.refuse.new.self in
    let made : Walked = record now { exprs = c.make_guards.new.exprs } in
    stands_made {R = Unit} _ [] [] old made c.keep_limit.new.self (Err c.in-Err.fault) (none_so_far old.fault c.in_ok-fault.fault now (ap (λ (w : Walked). w.fault) c.refuse.ensures.first) (sym c.refuse.ensures.refused ∙ c.if-refuse.false))
    (subst (λ (w : Walked). Builds {R = Unit} (part (case_place x) (choices_nodes d (formula_at (arena w.exprs) c.args.guard) (case_choices x)) ∷ []) [] [] (standing w) (standing made) (Err c.in-Err.fault)) c.refuse.ensures.first (c.in-Err.ensures.builds now.list.items)) c.keep_limit.ensures.stands

pub returns-in_ok-keep_limit-in-Err-clause-stands : goal.returns-in_ok-keep_limit-in-Err-clause-stands
returns-in_ok-keep_limit-in-Err-clause-stands g c =
    let d = context_for g.D.Device.table c.args.scope.now in
    let x = c.args.case.now in
    let old = c.args.out.now in
    let now = c.refuse.new.self in
    let made : Walked = record now { exprs = c.make_guards.new.exprs } in
    stands_made {R = Unit} _ [] [] old made c.keep_limit.new.self (Err c.in-Err.fault) (none_so_far old.fault c.in_ok-fault.fault now (ap (λ (w : Walked). w.fault) c.refuse.ensures.first) (sym c.refuse.ensures.refused ∙ c.if-refuse.false))
    (subst (λ (w : Walked). Builds {R = Unit} (part (case_place x) (choices_nodes d (formula_at (arena w.exprs) c.args.guard) (case_choices x)) ∷ []) [] [] (standing w) (standing made) (Err c.in-Err.fault)) c.refuse.ensures.first (c.in-Err.ensures.builds now.list.items)) c.keep_limit.ensures.stands
