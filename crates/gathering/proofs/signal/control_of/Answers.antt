use Rattle.std.proofs.Common.{Some, ap, sym, ◌∙◌, arith}
use Rattle.gathering.proofs.Common.{target_place}
use Rattle.gathering.proofs.GivenAmounts.{no_control, some_control}
use Rattle.gathering.proofs.signal.control_of.Goals as goal

pub returns-in-None-clause-control : goal.returns-in-None-clause-control
returns-in-None-clause-control c = λ first last before lie behind.
    let none = sym c.first_for.ensures ∙ c.in-None.is in
    record {
      is = λ d. no_control d first c.args.signal c.args.control c.args.list.now none;
      inside = tt;
      place = ap target_place (sym none);
    }

pub returns-in_ok-bit-in-Some-clause-control : goal.returns-in_ok-bit-in-Some-clause-control
returns-in_ok-bit-in-Some-clause-control c = λ first last before lie behind.
    let some = sym c.first_for.ensures ∙ c.in-Some.is in
    let made = c.in_ok-bit-in-Some.ensures.bit first last before lie behind in
    record {
      is = λ d. ap (λ f. Some f) made ∙ some_control d first c.args.signal c.args.control c.args.list.now c.in-Some.first some;
      inside = omega (arith, c.in_ok-bit-in-Some.ensures.inside, behind.longer);
      place = ap target_place (sym some);
    }
