-- There are at most 31 positions after the first.
use Rattle.std.proofs.Common.{length, ap, arith}
use Rattle.state_diagrams.proofs.Common.{arena}
use Rattle.state_diagrams.proofs.NumberLaws.{rest_small}
use Rattle.state_diagrams.proofs.numbers.+places_number.Goals as goal

pub overflow_mul-number : goal.overflow_mul-number
overflow_mul-number t c =
    omega (arith, c.places_number-number.ensures, rest_small (arena c.args.exprs.now) c.in-Some.higher.now (omega (arith, ap length c.in-Some.ensures.cases.0, c.requires.few)))

pub overflow_add-result : goal.overflow_add-result
overflow_add-result t c =
    omega (arith, c.places_number-number.ensures, rest_small (arena c.args.exprs.now) c.in-Some.higher.now (omega (arith, ap length c.in-Some.ensures.cases.0, c.requires.few)))
