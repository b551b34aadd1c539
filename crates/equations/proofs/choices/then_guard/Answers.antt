-- The guard as a part of the condition's unit.
use Rattle.std.proofs.Common.{[], Ok, Err, ap₂, ◌∙◌}
use Rattle.equations.proofs.Common.{err_from_is_err_and, make_and, kept_formula, kept_inside, keeps_on, view, context_for}
use Rattle.equations.proofs.BuiltParts.{condition_made, kept_bit, stops_longer, guard_behind}
use Rattle.equations.proofs.choices.then_guard.Goals as goal

pub returns-in_err-ids-clause-builds : goal.returns-in_err-ids-clause-builds
returns-in_err-ids-clause-builds g c = λ list.
    let p = err_from_is_err_and c.from_residual.result c.from_residual.ensures.1 in
    rw (p.1, p.2) (stops_longer c.args.condition.now.unit [] _ _ _ _ c.in_err-ids.field-0.0 (c.in_err-ids.ensures.builds list))

pub add_node-requires : goal.add_node-requires
add_node-requires g c = (
  kept_inside _ _ c.args.guard c.in_ok-ids.ensures.keeps c.requires.guard,
  (condition_made (context_for g.D.Device.table c.args.scope.now) (view c.args.condition.now.expr.now) _ _ _ _ c.in_ok-ids.ensures.width c.index-bit.ensures c.in_ok-ids.ensures.bits).0,
)

pub returns-in_err-then-clause-builds : goal.returns-in_err-then-clause-builds
returns-in_err-then-clause-builds g c = λ list.
    let p = err_from_is_err_and c.from_residual-in_err-then.result c.from_residual-in_err-then.ensures.1 in
    rw (p.1, p.2)
    (guard_behind c.args.condition.now.unit _ make_and _ _ _ _ _ _ _ (Err c.in_err-then.field-0.0) (kept_formula _ _ c.args.guard c.in_ok-ids.ensures.keeps c.requires.guard) (condition_made (context_for g.D.Device.table c.args.scope.now) (view c.args.condition.now.expr.now) _ _ _ _ c.in_ok-ids.ensures.width c.index-bit.ensures c.in_ok-ids.ensures.bits).1 (c.in_ok-ids.ensures.builds list) (c.in_err-then.ensures.builds list))

pub returns-in_err-then-clause-keeps : goal.returns-in_err-then-clause-keeps
returns-in_err-then-clause-keeps g c = keeps_on _ _ _ c.in_ok-ids.ensures.keeps (c.in_err-then.ensures.builds []).1.keeps

pub returns-clause-keeps : goal.returns-clause-keeps
returns-clause-keeps g c = keeps_on _ _ _ c.in_ok-ids.ensures.keeps (c.in_ok-then.ensures.builds []).made.grew.keeps

pub returns-clause-builds : goal.returns-clause-builds
returns-clause-builds g c = λ list.
    guard_behind c.args.condition.now.unit _ make_and _ _ _ _ _ _ _ (Ok c.in_ok-then.then) (kept_formula _ _ c.args.guard c.in_ok-ids.ensures.keeps c.requires.guard) (condition_made (context_for g.D.Device.table c.args.scope.now) (view c.args.condition.now.expr.now) _ _ _ _ c.in_ok-ids.ensures.width c.index-bit.ensures c.in_ok-ids.ensures.bits).1 (c.in_ok-ids.ensures.builds list) (c.in_ok-then.ensures.builds list)

pub returns-clause-condition : goal.returns-clause-condition
returns-clause-condition g c =
    kept_bit _ _ c.index-bit.result.now _ (c.in_ok-then.ensures.builds []).made.grew.keeps (condition_made (context_for g.D.Device.table c.args.scope.now) (view c.args.condition.now.expr.now) _ _ _ _ c.in_ok-ids.ensures.width c.index-bit.ensures c.in_ok-ids.ensures.bits)

pub returns-clause-then : goal.returns-clause-then
returns-clause-then g c = (
  c.in_ok-then.ensures.bit.0,
  c.in_ok-then.ensures.bit.1
      ∙ ap₂ (λ f h. (make_and f h).what) (kept_formula _ _ c.args.guard c.in_ok-ids.ensures.keeps c.requires.guard) (condition_made (context_for g.D.Device.table c.args.scope.now) (view c.args.condition.now.expr.now) _ _ _ _ c.in_ok-ids.ensures.width c.index-bit.ensures c.in_ok-ids.ensures.bits).1,
)

pub returns-clause-inside : goal.returns-clause-inside
returns-clause-inside g c = (
  kept_inside _ _ c.index-bit.result.now (c.in_ok-then.ensures.builds []).made.grew.keeps (condition_made (context_for g.D.Device.table c.args.scope.now) (view c.args.condition.now.expr.now) _ _ _ _ c.in_ok-ids.ensures.width c.index-bit.ensures c.in_ok-ids.ensures.bits).0,
  c.in_ok-then.ensures.bit.0,
)
