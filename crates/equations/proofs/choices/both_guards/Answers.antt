-- The guard of ELSE as a part of the condition's unit.
use Rattle.std.proofs.Common.{[], ◌∷◌, Ok, Err, sym, ap₂, ◌∙◌, subst}
use Rattle.equations.proofs.Common.{err_from_is_err_and, arena, formula_at, view, choice_nodes, IsBuilt, context_for, part, kept_formula}
use Rattle.abel_meaning.specs.CountedNodes as counted
use Rattle.equations.proofs.BuiltParts.{kept_bit, choice_else, choice_stops}
use Rattle.equations.proofs.choices.both_guards.Goals as goal

pub returns-in_err-chosen-clause-builds : goal.returns-in_err-chosen-clause-builds
returns-in_err-chosen-clause-builds g c = λ list.
    let p = err_from_is_err_and c.from_residual.result c.from_residual.ensures.1 in
    let x = c.args.condition.now in
    rw (p.1, p.2)
    (choice_stops x.unit (context_for g.D.Device.table c.args.scope.now) (formula_at (arena c.args.exprs.now) c.args.guard) (view x.expr.now) x.otherwise _ _ c.in_err-chosen.field-0.0 (c.in_err-chosen.ensures.builds list))

-- the unit with its ELSE
pub returns-in_err-otherwise-clause-builds : goal.returns-in_err-otherwise-clause-builds
returns-in_err-otherwise-clause-builds g c = λ list.
    let p = err_from_is_err_and c.from_residual-in_err-otherwise.result c.from_residual-in_err-otherwise.ensures.1 in
    let x = c.args.condition.now in
    rw (p.1, p.2)
    (choice_else x.unit (context_for g.D.Device.table c.args.scope.now) _ (view x.expr.now) x.otherwise _ _ _ _ _ (Err c.in_err-otherwise.field-0.0) c.if-condition.true (kept_formula _ _ c.args.guard c.in_ok-chosen.ensures.keeps c.requires.guard) c.in_ok-chosen.ensures.condition.1 (c.in_ok-chosen.ensures.builds list) (c.in_err-otherwise.ensures.builds list))

pub returns-in_ok-otherwise-clause-builds : goal.returns-in_ok-otherwise-clause-builds
returns-in_ok-otherwise-clause-builds g c = λ list.
    let x = c.args.condition.now in
    choice_else x.unit (context_for g.D.Device.table c.args.scope.now) _ (view x.expr.now) x.otherwise _ _ _ _ _ (Ok c.in_ok-otherwise.otherwise) c.if-condition.true (kept_formula _ _ c.args.guard c.in_ok-chosen.ensures.keeps c.requires.guard) c.in_ok-chosen.ensures.condition.1 (c.in_ok-chosen.ensures.builds list) (c.in_ok-otherwise.ensures.builds list)

pub returns-in_ok-otherwise-clause-then : goal.returns-in_ok-otherwise-clause-then
returns-in_ok-otherwise-clause-then g c = kept_bit _ _ c.in_ok-chosen.chosen.then _ (c.in_ok-otherwise.ensures.builds []).made.grew.keeps c.in_ok-chosen.ensures.then

pub returns-in_ok-otherwise-clause-otherwise : goal.returns-in_ok-otherwise-clause-otherwise
returns-in_ok-otherwise-clause-otherwise g c = λ e. (
  c.in_ok-otherwise.ensures.bit.0,
  c.in_ok-otherwise.ensures.bit.1 ∙ ap₂ (λ f h. (counted.guard_else f h).what) (kept_formula _ _ c.args.guard c.in_ok-chosen.ensures.keeps c.requires.guard) c.in_ok-chosen.ensures.condition.1,
)

-- the unit without one
pub returns-else-condition-clause-builds : goal.returns-else-condition-clause-builds
returns-else-condition-clause-builds g c = λ list.
    let x = c.args.condition.now in
    let d = context_for g.D.Device.table c.args.scope.now in
    subst (λ b. IsBuilt (part x.unit (choice_nodes d (formula_at (arena c.args.exprs.now) c.args.guard) (view x.expr.now) b) ∷ []) [] [] (record { exprs = c.args.exprs.now; list = list }) (record { exprs = c.then_guard.new.exprs; list = list })) (sym c.if-condition.false)
    (c.in_ok-chosen.ensures.builds list)
