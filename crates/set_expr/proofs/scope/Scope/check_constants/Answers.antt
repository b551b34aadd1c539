use Rattle.std.proofs.Common.{sym, ap, ◌∙◌}
use Rattle.set_expr.proofs.Common.{entries_of, first_refusal, none_refused, constants_refused, section_order}
use Rattle.set_expr.proofs.scope.Scope.check_constants.Goals as goal

pub returns-in-None-clause-accepted : goal.returns-in-None-clause-accepted
returns-in-None-clause-accepted c =
    none_refused section_order (constants_refused (entries_of c.args.self.now)) (sym c.in-None.is ∙ (c.fault.ensures ∙ (c.self.invariant.0.fault ∙ ap (λ n. first_refusal section_order (constants_refused (entries_of n))) c.self.view_is)))
