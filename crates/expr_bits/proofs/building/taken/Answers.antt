-- The value on top, or a number.
use Rattle.std.proofs.Common.{refl, sym, subst}
use Rattle.expr_bits.proofs.Common.{IsPart, plain_value, top}
use Rattle.expr_bits.proofs.Turns.{stack_none, none_left}
use Rattle.expr_bits.proofs.building.taken.Goals as goal

pub returns-in-None-clause-top : goal.returns-in-None-clause-top
returns-in-None-clause-top c fs ps a =
    let p = c.in-None.ensures in
    subst (λ qs. IsPart fs c.number_bits.result (top qs)) (sym (stack_none fs c.args.values.now.items ps (none_left c.args.values.now.items c.pop.new.self.items _ p.items p.rest p.cases.0) a)) (c.number_bits.ensures fs (plain_value 0) refl refl)
