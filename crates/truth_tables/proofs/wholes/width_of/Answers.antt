-- Sets and operators by their expressions, and what has one position.
use Rattle.std.proofs.Common.{◌∙◌, refl, subst, true}
use Rattle.truth_tables.proofs.Common.{entries_of, names_found, IfOk-weaker, IsClearPart, IsPart}
use Rattle.truth_tables.proofs.PartLaws.{operator_width, set_width}
use Rattle.truth_tables.proofs.wholes.width_of.Goals as goal

pub returns-in-Set : goal.returns-in-Set
returns-in-Set c =
    IfOk-weaker c.expr_width.result _ _
    (λ w k d t is i. k d is ∙ set_width d c.in-Set.expr.now _ _ t (subst (λ z. IsPart d z t) c.in-Set.is i))
    c.expr_width.ensures

pub returns-in-Operator : goal.returns-in-Operator
returns-in-Operator c =
    IfOk-weaker c.expr_width-in-Operator.result _ _
    (λ w k d t is i. k d is ∙ operator_width d c.in-Operator.expr.now t (subst (λ z. IsPart d z t) c.in-Operator.is i))
    c.expr_width-in-Operator.ensures

pub expr_width-requires : goal.expr_width-requires
expr_width-requires c = (subst (IsClearPart true (names_found (entries_of c.args.scope.now))) c.in-Set.is c.requires).0 refl

pub expr_width-requires-in-Operator : goal.expr_width-requires-in-Operator
expr_width-requires-in-Operator c = subst (IsClearPart true (names_found (entries_of c.args.scope.now))) c.in-Operator.is c.requires
