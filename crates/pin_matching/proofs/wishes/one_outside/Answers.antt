use Rattle.std.proofs.Common.{◌≡◌, true, subst, arith}
use Rattle.pin_matching.proofs.Common.{has, place_of}
use Rattle.pin_matching.proofs.wishes.one_outside.Goals as goal

pub returns-clause-none : goal.returns-clause-none
returns-clause-none c = λ p found.
    let there = place_of c.args.list.now p found in
    subst (λ x. has c.args.pins.now x ≡ true) there.2 (c.loop-pin.invariant there.0 (let end = c.loop-pin-test.false in omega (arith, there.1, end)))
