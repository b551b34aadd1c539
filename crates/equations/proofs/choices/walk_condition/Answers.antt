-- A condition that is refused or follows what is, and one whose guards are made.
use Rattle.std.proofs.Common.{[], ◌∷◌, ◌++◌, Ok, Err, refl, sym, ap, ◌∙◌, subst}
use Rattle.equations.proofs.Common.{arena, formula_at, entries_of, view, choice_nodes, expression_found, Walked, Builds, context_for, part, value_width, standing, none_so_far, stands_made, stands_same, kept_inside, left_empty, condition_unit, condition_refused}
use Rattle.equations.proofs.BuiltParts.{value_accepted}
use Rattle.equations.proofs.WalkedUnits.{limit_kept, unit_clear, unit_made, unit_refused}
use Rattle.equations.proofs.choices.walk_condition.Goals as goal

pub returns-then-refuse-clause-walks : goal.returns-then-refuse-clause-walks
returns-then-refuse-clause-walks g c = λ all a.
    let d = context_for g.D.Device.table c.args.scope.now in
    let x = c.args.condition.now in
    unit_refused all (condition_unit d x.unit (view x.expr.now) (choice_nodes d (formula_at (arena c.args.out.now.exprs) c.args.guard) (view x.expr.now) x.otherwise)) [] [] c.in_ok-fault.fault c.args.out.now c.refuse.new.self
    (c.in_ok-fault.ensures d (ap entries_of (sym c.scope.ensures))) c.refuse.ensures.first (sym c.refuse.ensures.refused ∙ c.if-refuse.true) a

pub both_guards-requires-clause-accepted : goal.both_guards-requires-clause-accepted
both_guards-requires-clause-accepted g c =
    let d = context_for g.D.Device.table c.args.scope.now in
    let x = c.args.condition.now in
    let f = expression_found d.names (view x.expr.now) in
    let clear = unit_clear (condition_refused d x.unit (view x.expr.now)) c.in_ok-fault.fault c.args.out.now c.refuse.new.self (c.in_ok-fault.ensures d (ap entries_of (sym c.scope.ensures))) c.refuse.ensures.first (sym c.refuse.ensures.refused ∙ c.if-refuse.false) in
    value_accepted c.args.scope.now (view x.expr.now) (left_empty f.refusals (f.specials ++ value_width x.unit 1 f.value) clear.1.1)

pub returns-in-Ok-clause-walks : goal.returns-in-Ok-clause-walks
returns-in-Ok-clause-walks g c = λ all a.
    let d = context_for g.D.Device.table c.args.scope.now in
    let x = c.args.condition.now in
    let old = c.args.out.now in
    let now = c.refuse.new.self in
    let made : Walked = record now { exprs = c.both_guards.new.exprs } in
    let here = subst (λ (w : Walked). Builds {R = Unit} (part x.unit (choice_nodes d (formula_at (arena w.exprs) c.args.guard) (view x.expr.now) x.otherwise) ∷ []) [] [] (standing w) (standing made) (Ok tt)) c.refuse.ensures.first (c.in-Ok.ensures.builds now.list.items) in
    unit_made all x.unit (condition_refused d x.unit (view x.expr.now)) (choice_nodes d (formula_at (arena old.exprs) c.args.guard) (view x.expr.now) x.otherwise) [] [] c.in_ok-fault.fault old now made made (Ok tt)
    (c.in_ok-fault.ensures d (ap entries_of (sym c.scope.ensures))) c.refuse.ensures.first (sym c.refuse.ensures.refused ∙ c.if-refuse.false) a refl refl here refl

pub returns-in_ok-keep_limit-in-Err-clause-walks : goal.returns-in_ok-keep_limit-in-Err-clause-walks
returns-in_ok-keep_limit-in-Err-clause-walks g c = λ all a.
    let d = context_for g.D.Device.table c.args.scope.now in
    let x = c.args.condition.now in
    let old = c.args.out.now in
    let now = c.refuse.new.self in
    let made : Walked = record now { exprs = c.both_guards.new.exprs } in
    let here = subst (λ (w : Walked). Builds {R = Unit} (part x.unit (choice_nodes d (formula_at (arena w.exprs) c.args.guard) (view x.expr.now) x.otherwise) ∷ []) [] [] (standing w) (standing made) (Err c.in-Err.fault)) c.refuse.ensures.first (c.in-Err.ensures.builds now.list.items) in
    unit_made all x.unit (condition_refused d x.unit (view x.expr.now)) (choice_nodes d (formula_at (arena old.exprs) c.args.guard) (view x.expr.now) x.otherwise) [] [] c.in_ok-fault.fault old now made c.keep_limit.new.self (Err c.in-Err.fault)
    (c.in_ok-fault.ensures d (ap entries_of (sym c.scope.ensures))) c.refuse.ensures.first (sym c.refuse.ensures.refused ∙ c.if-refuse.false) a refl refl here c.in_ok-keep_limit-in-Err.ensures.kept

pub returns-in_ok-keep_limit-in-Err-clause-guards : goal.returns-in_ok-keep_limit-in-Err-clause-guards
returns-in_ok-keep_limit-in-Err-clause-guards g c =
    let made : Walked = record c.refuse.new.self { exprs = c.both_guards.new.exprs } in
    let inside = kept_inside (arena c.args.out.now.exprs) (arena c.keep_limit.new.self.exprs) c.args.guard (returns-in_ok-keep_limit-in-Err-clause-walks g c c.args.out.now.before (λ s p. refl)).keeps c.requires.guard in
    record {
      then_inside = inside;
      else_inside = inside;
      then = λ e. absurd (limit_kept c.in-Err.fault made c.keep_limit.new.self c.in_ok-keep_limit-in-Err.ensures.kept e);
      otherwise = λ e o. absurd (limit_kept c.in-Err.fault made c.keep_limit.new.self c.in_ok-keep_limit-in-Err.ensures.kept e);
    }

pub returns-in_err-fault-clause-stands : goal.returns-in_err-fault-clause-stands
returns-in_err-fault-clause-stands g c = stands_same [] [] c.args.out.now c.args.out.now refl

pub returns-then-refuse-clause-stands : goal.returns-then-refuse-clause-stands
returns-then-refuse-clause-stands g c = stands_same [] [] c.args.out.now c.refuse.new.self (ap standing c.refuse.ensures.first)

pub returns-in-Ok-clause-stands : goal.returns-in-Ok-clause-stands
returns-in-Ok-clause-stands g c =
    let d = context_for g.D.Device.table c.args.scope.now in
    let x = c.args.condition.now in
    let old = c.args.out.now in
    let now = c.refuse.new.self in
    let made : Walked = record now { exprs = c.both_guards.new.exprs } in
    let here = subst (λ (w : Walked). Builds {R = Unit} (part x.unit (choice_nodes d (formula_at (arena w.exprs) c.args.guard) (view x.expr.now) x.otherwise) ∷ []) [] [] (standing w) (standing made) (Ok tt)) c.refuse.ensures.first (c.in-Ok.ensures.builds now.list.items) in
    stands_made {R = Unit} _ [] [] old made made (Ok tt) (none_so_far old.fault c.in_ok-fault.fault now (ap (λ (w : Walked). w.fault) c.refuse.ensures.first) (sym c.refuse.ensures.refused ∙ c.if-refuse.false)) here refl

pub returns-in_err-keep_limit-in-Err-clause-stands : goal.returns-in_err-keep_limit-in-Err-clause-stands
returns-in_err-keep_limit-in-Err-clause-stands g c =
    let d = context_for g.D.Device.table c.args.scope.now in
    let x = c.args.condition.now in
    let old = c.args.out.now in
    let now = c.refuse.new.self in
    let made : Walked = record now { exprs = c.both_guards.new.exprs } in
    let here = subst (λ (w : Walked). Builds {R = Unit} (part x.unit (choice_nodes d (formula_at (arena w.exprs) c.args.guard) (view x.expr.now) x.otherwise) ∷ []) [] [] (standing w) (standing made) (Err c.in-Err.fault)) c.refuse.ensures.first (c.in-Err.ensures.builds now.list.items) in
    stands_made {R = Unit} _ [] [] old made c.keep_limit.new.self (Err c.in-Err.fault) (none_so_far old.fault c.in_ok-fault.fault now (ap (λ (w : Walked). w.fault) c.refuse.ensures.first) (sym c.refuse.ensures.refused ∙ c.if-refuse.false)) here c.keep_limit.ensures.stands

pub returns-in_ok-keep_limit-in-Err-clause-stands : goal.returns-in_ok-keep_limit-in-Err-clause-stands
returns-in_ok-keep_limit-in-Err-clause-stands g c =
    let d = context_for g.D.Device.table c.args.scope.now in
    let x = c.args.condition.now in
    let old = c.args.out.now in
    let now = c.refuse.new.self in
    let made : Walked = record now { exprs = c.both_guards.new.exprs } in
    let here = subst (λ (w : Walked). Builds {R = Unit} (part x.unit (choice_nodes d (formula_at (arena w.exprs) c.args.guard) (view x.expr.now) x.otherwise) ∷ []) [] [] (standing w) (standing made) (Err c.in-Err.fault)) c.refuse.ensures.first (c.in-Err.ensures.builds now.list.items) in
    stands_made {R = Unit} _ [] [] old made c.keep_limit.new.self (Err c.in-Err.fault) (none_so_far old.fault c.in_ok-fault.fault now (ap (λ (w : Walked). w.fault) c.refuse.ensures.first) (sym c.refuse.ensures.refused ∙ c.if-refuse.false)) here c.keep_limit.ensures.stands
