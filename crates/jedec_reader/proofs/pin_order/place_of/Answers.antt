use Rattle.std.proofs.Common.{ap, sym, arith, eq-eqb, ℕ, Option, ◌==◌, unwrap_or}
use Rattle.jedec_reader.proofs.Positions.{position_found, position_none}
use Rattle.jedec_reader.proofs.pin_order.place_of.Goals as goal

pub returns-then-other-pin : goal.returns-then-other-pin
returns-then-other-pin c =
    sym (ap (λ (o : Option ℕ). unwrap_or o 0) (position_found (λ other. other == c.args.pin) c.args.order.now c.loop-place.place 0 c.loop-place-test.true (eq-eqb _ _ c.if-other-pin.true) c.loop-place.invariant))

pub returns : goal.returns
returns c =
    sym (ap (λ (o : Option ℕ). unwrap_or o 0) (position_none (λ other. other == c.args.pin) c.args.order.now 0 (λ k low. c.loop-place.invariant k (omega (arith, c.loop-place-test.false)))))
