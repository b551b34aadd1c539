-- The member is joined after the value.
use Rattle.std.proofs.Common.{arith}
use Rattle.expr_bits.proofs.Common.{IfOk-weaker}
use Rattle.expr_bits.specs.declared.work.Step.TheVariants as step
use Rattle.expr_bits.specs.declared.work.Work.TheVariants as work
use Rattle.expr_bits.proofs.Coming.{value_precedes}
use Rattle.expr_bits.proofs.Weights.{weight_more}
use Rattle.expr_bits.proofs.expanding.with_value.Goals as goal

pub returns-clause-comes : goal.returns-clause-comes
returns-clause-comes c =
    IfOk-weaker c.first_of-2.result _ _
    (λ new has es e t ts comes. value_precedes es e c.args.work.items c.in_ok-work.work.items new.items c.args.next t ts c.in_ok-work.ensures has comes)
    c.first_of-2.ensures

pub returns-clause-weight : goal.returns-clause-weight
returns-clause-weight c =
    IfOk-weaker c.first_of-2.result _ _
    (λ new has es. omega (arith, weight_more es new.items c.in_ok-work.work.items c.args.next has, weight_more es c.in_ok-work.work.items c.args.work.items (work.Do step.Member) c.in_ok-work.ensures))
    c.first_of-2.ensures
