use Rattle.std.proofs.Common.{sym, subst}
use Rattle.section_targets.proofs.Common.{IfOk-weaker, view_meaning, term_meant, IsOfTerm}
use Rattle.section_targets.proofs.naming.named_meaning.Goals as goal

pub returns-in-Constant : goal.returns-in-Constant
returns-in-Constant c =
    IfOk-weaker c.named_expr.result _ _
    (λ n f count ks lt h. subst (λ m. IsOfTerm count n (term_meant ks c.args.number (view_meaning m))) (sym c.in-Constant.is) (f count ks h))
    c.named_expr.ensures

pub returns-in-DeviceName : goal.returns-in-DeviceName
returns-in-DeviceName c count ks lt h =
    subst (λ m. IsOfTerm count c.none.result (term_meant ks c.args.number (view_meaning m))) (sym c.in-DeviceName.is) (c.none.ensures count)
