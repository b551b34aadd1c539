-- Among the first names it is what it is among all; any other is a number.
use Rattle.std.proofs.Common.{sym, ap}
use Rattle.expr_bits.proofs.Common.{entries_of, extended_if, Push, after_task}
use Rattle.expr_bits.proofs.Coming.{zero_comes}
use Rattle.expr_bits.proofs.NamesBefore.{here_is, named_none, named_past}
use Rattle.expr_bits.proofs.Weights.{name_below}
use Rattle.expr_bits.proofs.work.name_work.Goals as goal

pub returns-in_default-clause-comes : goal.returns-in_default-clause-comes
returns-in_default-clause-comes c d ps =
    let es = entries_of c.args.scope.now in
    zero_comes d c.args.outer.extension _ ps (named_none c.args.outer.count es c.args.text.now c.in_default.ensures.place)

pub returns-then-name-outer-clause-comes : goal.returns-then-name-outer-clause-comes
returns-then-name-outer-clause-comes c d ps =
    let es = entries_of c.args.scope.now in
    zero_comes d c.args.outer.extension _ ps (named_past c.args.outer.count c.in-Some.name.number es c.args.text.now c.in-Some.ensures.place c.if-name-outer.true)

pub returns-else-name-outer-clause-comes : goal.returns-else-name-outer-clause-comes
returns-else-name-outer-clause-comes c d ps =
    let es = entries_of c.args.scope.now in
    ap (λ t. after_task d (Push (extended_if c.args.outer.extension t)) ps) (sym (here_is c.args.outer.count c.in-Some.name.number es c.args.text.now c.in-Some.ensures.place c.if-name-outer.false))

pub returns-else-name-outer-clause-weight : goal.returns-else-name-outer-clause-weight
returns-else-name-outer-clause-weight c =
    name_below (entries_of c.args.scope.now) c.args.outer.count c.in-Some.name.number c.args.text.now c.in-Some.ensures.place c.if-name-outer.false
